use native.Mathlib.Omega.{arith}
use lib.ListN.{length-take}
use Rattle.test_images.proofs.part_outcome.Goals as goal

pub slice_bounds-outcome-end : goal.slice_bounds-outcome-end
slice_bounds-outcome-end c = simp length-take (omega arith)
