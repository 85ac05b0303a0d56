use mathlib.Core.Path.{refl}
use Rattle.stack.specs.States.{top}
use Rattle.iter.proofs.Laws.{some_level, top_level}
use Rattle.iter.proofs.Cursor.place.Goals as goal

pub overflow_sub-self : goal.overflow_sub-self
unfolding top
overflow_sub-self c = search some_level

pub state_at-requires : goal.state_at-requires
unfolding top
state_at-requires c = search top_level

pub returns : goal.returns
unfolding top
returns c = (refl, λ h. c.state_at.ensures)
