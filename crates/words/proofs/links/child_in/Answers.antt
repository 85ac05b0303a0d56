use Rattle.words.proofs.Layouts.{child_left, child_right, left_fits, right_fits}
use Rattle.words.proofs.links.child_in.Goals as goal

pub returns-then-left_side : goal.returns-then-left_side
returns-then-left_side c = (search child_left, search left_fits)

pub returns-else-left_side : goal.returns-else-left_side
returns-else-left_side c = (search child_right, search right_fits)
