use Rattle.first.proofs.Laws.{admitted_there, admitted_none}
use Rattle.first.proofs.is_admitted.Goals as goal

pub returns-then-slot-count : goal.returns-then-slot-count
returns-then-slot-count c = search admitted_there

pub returns-else-slot-count : goal.returns-else-slot-count
returns-else-slot-count c = search admitted_none
