use Rattle.words.proofs.Layouts.{put_left, put_right}
use Rattle.words.proofs.links.with_child.Goals as goal

pub returns-then-left_side : goal.returns-then-left_side
returns-then-left_side c = search put_left

pub returns-else-left_side : goal.returns-else-left_side
returns-else-left_side c = search put_right
