use Rattle.tree_in.proofs.InsertRounds.{rotated_is, rotated_changes}
use borrow.Author.Rules.{rules}
use Rattle.tree_in.proofs.repair.rotate.Goals as goal

pub returns : goal.returns
returns c = (search rules, search rotated_is, search rotated_changes)
