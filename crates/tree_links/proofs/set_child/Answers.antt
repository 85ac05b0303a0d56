use Rattle.tree_edit.specs.Links.{set_child_lem}
use Rattle.tree_links.proofs.set_child.Goals as goal

pub returns : goal.returns
unfolding set_child_lem
returns c = rw (← c.adopt_child.ensures) c.put_child.ensures
