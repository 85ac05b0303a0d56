use native.Mathlib.Omega.{arith}
use Rattle.tree_rm.proofs.Removes.{vacate_is, vacate_changes, repaired_most}
use borrow.Author.Rules.{rules}
use Rattle.tree_rm.proofs.remove.vacate.Goals as goal

pub finish_rm-requires : goal.finish_rm-requires
finish_rm-requires c = (omega arith, omega arith, omega arith, search repaired_most)

pub returns : goal.returns
returns c = (search vacate_is, search vacate_changes)
