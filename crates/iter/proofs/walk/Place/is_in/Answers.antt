use Rattle.iter.proofs.Laws.{in_state, out_state}
use Rattle.iter.proofs.walk.Place.is_in.Goals as goal

pub returns-then-self-state : goal.returns-then-self-state
returns-then-self-state c = search in_state

pub returns-else-self-state : goal.returns-else-self-state
returns-else-self-state c = out_state _ _ _ _ _ c.requires c.if-self-state.false
