use Rattle.bitvec.proofs.Laws.{bytes_more, bytes_even}
use Rattle.bitvec.proofs.get_byte_len.Goals as goal

pub returns-then-bit_len-gt0 : goal.returns-then-bit_len-gt0
returns-then-bit_len-gt0 c = search (bytes_more, bytes_even)

pub returns-else-bit_len-gt0 : goal.returns-else-bit_len-gt0
returns-else-bit_len-gt0 c = search (bytes_more, bytes_even)
