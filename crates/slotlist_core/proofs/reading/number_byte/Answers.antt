use Rattle.lines.proofs.Laws.{number_found, number_missing}
use Rattle.words.proofs.Tests.{equal, unequal}
use Rattle.slotlist_core.specs.Reading.{number_byte_lem}
use Rattle.slotlist_core.proofs.reading.number_byte.Goals as goal

pub returns-in-Some : goal.returns-in-Some
unfolding number_byte_lem
returns-in-Some c = search number_found

pub returns-then-b-eq-SPACE : goal.returns-then-b-eq-SPACE
unfolding number_byte_lem
returns-then-b-eq-SPACE c = search (number_missing, equal)

pub returns-else-b-eq-SPACE : goal.returns-else-b-eq-SPACE
unfolding number_byte_lem
returns-else-b-eq-SPACE c = search (number_missing, unequal)
