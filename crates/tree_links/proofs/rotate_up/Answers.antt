use Rattle.tree_edit.specs.Rotations.{rotate}
use Rattle.words.proofs.Layouts.{live_kid}
use native.Mathlib.Omega.{arith}
use Rattle.tree_links.proofs.rotate_up.Goals as goal

pub set_child-requires-2 : goal.set_child-requires-2
unfolding rotate
set_child-requires-2 c = (omega arith, omega arith, search live_kid)

pub returns : goal.returns
unfolding rotate
returns c = (
  c.replace_children-top.ensures.0,
  rw (← c.child_of-close.ensures.0, ← c.replace_children-top.ensures.1, ← c.set_child.ensures) c.set_child-2.ensures,
)
