use Rattle.lines.proofs.Laws.{number_found, number_missing}
use Rattle.slotlist_core.specs.Reading.{first_digit_lem}
use Rattle.slotlist_core.proofs.reading.first_digit.Goals as goal

pub returns-in-Some : goal.returns-in-Some
unfolding first_digit_lem
returns-in-Some c = search number_found

pub returns-in-None : goal.returns-in-None
unfolding first_digit_lem
returns-in-None c = search number_missing
