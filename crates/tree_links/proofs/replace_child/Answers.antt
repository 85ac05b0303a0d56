use Rattle.tree_edit.specs.Links.{redirected}
use Rattle.tree_links.proofs.replace_child.Goals as goal

pub returns : goal.returns
unfolding redirected
returns c = rw (c.put_child.ensures, c.child_of.ensures.0)
