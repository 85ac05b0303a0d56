use Rattle.image_text.proofs.Arms.{room_times, room_words, complete_on, complete_off}
use Rattle.image_text.proofs.reading.State.is_complete.Goals as goal

pub overflow_mul-result : goal.overflow_mul-result
overflow_mul-result c = search room_times

pub overflow_add-result : goal.overflow_add-result
overflow_add-result c = search room_words

pub returns-then-has_room : goal.returns-then-has_room
returns-then-has_room c = search complete_on

pub returns-else-has_room : goal.returns-else-has_room
returns-else-has_room c = search complete_off
