use Rattle.words.proofs.Tests.{less, not_less, equal, unequal}
use Rattle.slotlist_core.specs.Reading.{name_byte_lem}
use Rattle.slotlist_core.proofs.reading.name_byte.Goals as goal

pub returns-then-b-name : goal.returns-then-b-name
unfolding name_byte_lem
returns-then-b-name c = search (less, equal)

pub returns-else-b-name : goal.returns-else-b-name
unfolding name_byte_lem
returns-else-b-name c = search (less, unequal)

pub returns-then-b-eq-SPACE : goal.returns-then-b-eq-SPACE
unfolding name_byte_lem
returns-then-b-eq-SPACE c = search (not_less, equal)

pub returns-else-b-eq-SPACE : goal.returns-else-b-eq-SPACE
unfolding name_byte_lem
returns-else-b-eq-SPACE c = search (not_less, unequal)
