use Rattle.plan_text.proofs.Arms.{said_move, said_other}
use Rattle.plan_text.proofs.reading.take.Goals as goal

pub returns-in-Some : goal.returns-in-Some
returns-in-Some c = search said_move

pub returns-in-None : goal.returns-in-None
returns-in-None c = search said_other
