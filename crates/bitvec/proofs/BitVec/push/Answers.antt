use Rattle.bitvec.specs.Calls.{push_rule, push_bytes}
use Rattle.words.proofs.Tests.{picked, passed}
use Rattle.bitvec.proofs.Laws.{room_byte, room_next}
use Rattle.bitvec.proofs.BitVec.push.Goals as goal

pub returns-then-not-has_room : goal.returns-then-not-has_room
unfolding push_bytes push_rule
returns-then-not-has_room c = (search passed, search passed)

pub put_bit-requires : goal.put_bit-requires
unfolding push_bytes push_rule
put_bit-requires c = search room_byte

pub overflow_add-result : goal.overflow_add-result
unfolding push_bytes push_rule
overflow_add-result c = search room_next

pub returns : goal.returns
unfolding push_bytes push_rule
returns c = (search picked, search picked)
