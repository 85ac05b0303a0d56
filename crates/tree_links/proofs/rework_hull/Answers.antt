use Rattle.tree_links.proofs.LinkLaws.{as_number}
use borrow.Author.Rules.{rules}
use Rattle.tree_links.proofs.rework_hull.Goals as goal

pub returns : goal.returns
returns c = (search as_number, search rules)
