use Rattle.image_text.specs.Reading.{framed_in}
use Rattle.words.proofs.Tests.{picked, passed}
use Rattle.image_text.proofs.Arms.{room_few, room_fits, staged}
use Rattle.image_text.proofs.reading.State.framed.Goals as goal

pub frame-requires : goal.frame-requires
unfolding framed_in
frame-requires c = (search room_few, search room_fits)

pub returns-then-has_room : goal.returns-then-has_room
unfolding framed_in
returns-then-has_room c = search (picked, staged)

pub returns-else-has_room : goal.returns-else-has_room
unfolding framed_in
returns-else-has_room c = search (passed, staged)
