use native.Mathlib.Omega.{arith}
use lib.ListN.{length-take}
use Rattle.tidyplan.proofs.print.Goals as goal

pub slice_bounds-put_plan-end : goal.slice_bounds-put_plan-end
slice_bounds-put_plan-end c = simp length-take (omega arith)
