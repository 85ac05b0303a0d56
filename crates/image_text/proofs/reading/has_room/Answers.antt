use Rattle.image_text.specs.Reading.{room_for}
use Rattle.words.proofs.Tests.{less}
use Rattle.image_text.proofs.Arms.{room_is}
use Rattle.image_text.proofs.reading.has_room.Goals as goal

pub returns-then-count-gt65535 : goal.returns-then-count-gt65535
unfolding room_for
returns-then-count-gt65535 c = search less

pub returns-else-count-gt65535 : goal.returns-else-count-gt65535
unfolding room_for
returns-else-count-gt65535 c = search room_is
