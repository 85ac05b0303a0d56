use Rattle.iter.specs.Forms.{on_side}
use Rattle.iter.proofs.forms.is_on_side.Goals as goal

pub returns : goal.returns
unfolding on_side
returns c = rw (← c.child_of-left.ensures.0, ← c.child_of-right.ensures.0)
