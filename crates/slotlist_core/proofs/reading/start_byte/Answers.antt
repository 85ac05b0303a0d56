use Rattle.words.proofs.Tests.{equal, unequal}
use Rattle.slotlist_core.specs.Reading.{start_byte_lem}
use Rattle.slotlist_core.proofs.reading.start_byte.Goals as goal

pub returns-then-b-eq114 : goal.returns-then-b-eq114
unfolding start_byte_lem
returns-then-b-eq114 c = search equal

pub returns-else-b-eq114 : goal.returns-else-b-eq114
unfolding start_byte_lem
returns-else-b-eq114 c = search unequal
