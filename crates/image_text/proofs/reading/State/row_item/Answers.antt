use native.Mathlib.Omega.{arith}
use Rattle.image_text.specs.Reading.{row_item_lem}
use Rattle.words.proofs.Tests.{less, not_less, picked, passed}
use Rattle.image_text.proofs.Arms.{room_few, room_fits, room_place, staged}
use borrow.Author.Rules.{rules}
use Rattle.image_text.proofs.reading.State.row_item.Goals as goal

pub field-requires : goal.field-requires
unfolding row_item_lem
field-requires c = (search room_place, omega arith, search rules, search room_few, search room_fits)

pub returns-then-slot-count : goal.returns-then-slot-count
unfolding row_item_lem
returns-then-slot-count c = search (picked, less)

pub returns-else-slot-count : goal.returns-else-slot-count
unfolding row_item_lem
returns-else-slot-count c = search (picked, not_less, staged)

pub returns-else-has_room : goal.returns-else-has_room
unfolding row_item_lem
returns-else-has_room c = search (passed, staged)
