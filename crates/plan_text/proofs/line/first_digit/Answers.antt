use Rattle.lines.proofs.Laws.{number_found, number_missing}
use Rattle.plan_text.specs.Line.{first_digit_lem}
use Rattle.plan_text.proofs.line.first_digit.Goals as goal

pub returns-in-Some : goal.returns-in-Some
unfolding first_digit_lem
returns-in-Some c = search number_found

pub returns-in-None : goal.returns-in-None
unfolding first_digit_lem
returns-in-None c = search number_missing
