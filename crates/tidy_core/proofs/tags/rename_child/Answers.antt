use borrow.Author.Rules.{rules}
use Rattle.tidy_core.proofs.Tagging.{link_fits, kid_is}
use Rattle.tidy_core.proofs.tags.rename_child.Goals as goal

pub put_child-requires : goal.put_child-requires
put_child-requires c = (search rules, search link_fits)

pub returns : goal.returns
returns c = search kid_is
