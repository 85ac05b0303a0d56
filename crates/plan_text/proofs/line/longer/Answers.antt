use Rattle.lines.proofs.Laws.{number_found, number_missing}
use Rattle.plan_text.specs.Line.{longer}
use Rattle.plan_text.proofs.line.longer.Goals as goal

pub returns-in-Some : goal.returns-in-Some
unfolding longer
returns-in-Some c = search number_found

pub returns-in-None : goal.returns-in-None
unfolding longer
returns-in-None c = search number_missing
