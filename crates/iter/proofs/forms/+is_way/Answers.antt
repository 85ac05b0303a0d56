use Rattle.iter.proofs.Ways.{way_start, way_out, way_on, way_off}
use Rattle.iter.proofs.forms.+is_way.Goals as goal

pub returns-then-links-eq0 : goal.returns-then-links-eq0
returns-then-links-eq0 t c = search way_start

pub returns-then-count-parent : goal.returns-then-count-parent
returns-then-count-parent t c = search way_out

pub returns-then-is_on_side : goal.returns-then-is_on_side
returns-then-is_on_side t c = search way_on

pub returns-else-is_on_side : goal.returns-else-is_on_side
returns-else-is_on_side t c = search way_off
