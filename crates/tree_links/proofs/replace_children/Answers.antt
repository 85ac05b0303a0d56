use Rattle.tree_edit.specs.Links.{replaced, root_after}
use Rattle.words.proofs.Layouts.{live_kid}
use borrow.Author.Rules.{rules}
use Rattle.tree_links.proofs.replace_children.Goals as goal

pub replace_child_at-requires : goal.replace_child_at-requires
unfolding replaced root_after
replace_child_at-requires c = (search rules, search live_kid)

pub returns : goal.returns
unfolding replaced root_after
returns c = let parent = c.parent_of-parent.ensures.0 in
    (rw (← parent) c.root_below.ensures, rw (← parent, ← c.replace_child_at.ensures) c.put_parent.ensures)
