use native.Mathlib.Omega.{arith}
use lib.ListN.{length-take}
use Rattle.tidyapply.proofs.tell.Goals as goal

pub slice_bounds-complain-end-then-n-out-2 : goal.slice_bounds-complain-end-then-n-out-2
slice_bounds-complain-end-then-n-out-2 c = simp length-take (omega arith)
