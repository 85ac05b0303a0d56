use lib.ListN.{length-take}
use native.Mathlib.Omega.{arith}
use borrow.Author.Rules.{rules}
use Rattle.test_limits.proofs.build.Goals as goal

pub slice_bounds-build_list-end-2 : goal.slice_bounds-build_list-end-2
slice_bounds-build_list-end-2 c = simp length-take (omega arith)
