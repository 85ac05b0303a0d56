use native.Mathlib.Omega.{arith}
use lib.ListN.{length-take}
use Rattle.tidyapply.proofs.load.Goals as goal

pub slice_bounds-read_image_in-end-2 : goal.slice_bounds-read_image_in-end-2
slice_bounds-read_image_in-end-2 c = simp length-take (omega arith)
