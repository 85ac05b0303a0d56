use Rattle.lines.proofs.Laws.{number_found, number_missing}
use Rattle.words.proofs.Tests.{equal, unequal}
use Rattle.lines.proofs.input.Line.in_number.Goals as goal

pub returns-in-Some : goal.returns-in-Some
returns-in-Some c = (search number_found, search number_found)

pub returns-then-b-eq-SPACE : goal.returns-then-b-eq-SPACE
returns-then-b-eq-SPACE c = (search (number_missing, equal), search (number_missing, equal))

pub returns-else-b-eq-SPACE : goal.returns-else-b-eq-SPACE
returns-else-b-eq-SPACE c = (search (number_missing, unequal), search (number_missing, unequal))
