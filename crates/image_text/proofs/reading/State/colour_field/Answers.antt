use Rattle.image_text.proofs.Arms.{bit_room, colour_on, colour_off}
use Rattle.image_text.proofs.reading.State.colour_field.Goals as goal

pub put_bit-requires : goal.put_bit-requires
put_bit-requires c = search bit_room

pub returns-then-red-black : goal.returns-then-red-black
returns-then-red-black c = search colour_on

pub returns-else-red-black : goal.returns-else-red-black
returns-else-red-black c = search colour_off
