use Rattle.first.proofs.Laws.{met_yes, met_no}
use Rattle.first.proofs.first_met.Goals as goal

pub returns-then-is_admitted : goal.returns-then-is_admitted
returns-then-is_admitted c = search met_yes

pub returns-else-is_admitted : goal.returns-else-is_admitted
returns-else-is_admitted c = search met_no
