use lib.ListN.{length-take}
use native.Mathlib.Omega.{arith}
use borrow.Author.Rules.{rules}
use Rattle.test_limits.proofs.built.Goals as goal

pub slice_bounds-build_in-end : goal.slice_bounds-build_in-end
slice_bounds-build_in-end c = simp length-take (omega arith)
