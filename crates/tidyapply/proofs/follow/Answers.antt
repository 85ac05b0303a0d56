use native.Mathlib.Omega.{arith}
use lib.ListN.{length-take}
use Rattle.tidyapply.proofs.follow.Goals as goal

pub slice_bounds-take_plan-end-2 : goal.slice_bounds-take_plan-end-2
slice_bounds-take_plan-end-2 c = simp length-take (omega arith)

pub slice_bounds-take_plan-end-4 : goal.slice_bounds-take_plan-end-4
slice_bounds-take_plan-end-4 c = simp length-take (omega arith)

pub slice_bounds-apply-end-then-take_plan : goal.slice_bounds-apply-end-then-take_plan
slice_bounds-apply-end-then-take_plan c = simp length-take (omega arith)
