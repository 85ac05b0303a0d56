use Rattle.image.proofs.Layouts.{spare_none, spare_some}
use Rattle.image.proofs.layout.has_spare_clear.Goals as goal

pub returns-then-count-eq0 : goal.returns-then-count-eq0
returns-then-count-eq0 c = search spare_none

pub returns-else-count-eq0 : goal.returns-else-count-eq0
returns-else-count-eq0 c = search spare_some
