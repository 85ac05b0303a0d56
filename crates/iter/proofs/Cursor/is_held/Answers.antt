use Rattle.iter.proofs.Laws.{outside}
use Rattle.iter.proofs.Ways.{no_levels, over_levels, well_levelled}
use Rattle.iter.specs.Forms.{held_form}
use Rattle.iter.proofs.Cursor.is_held.Goals as goal

pub returns-then-count-self : goal.returns-then-count-self
unfolding held_form
returns-then-count-self c = search outside

pub returns-then-self-eq0 : goal.returns-then-self-eq0
unfolding held_form
returns-then-self-eq0 c = search no_levels

pub returns-then-self-gt32 : goal.returns-then-self-gt32
unfolding held_form
returns-then-self-gt32 c = search over_levels

pub returns : goal.returns
unfolding held_form
returns c = search well_levelled
