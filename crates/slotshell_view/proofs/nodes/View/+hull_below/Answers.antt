use Rattle.slotshell_view.proofs.Laws.{hull_dry, hull_out, hull_on}
use Rattle.slotshell_view.proofs.nodes.View.+hull_below.Goals as goal

pub returns-then-height-eq0 : goal.returns-then-height-eq0
returns-then-height-eq0 t c = search hull_dry

pub returns-then-self-link : goal.returns-then-self-link
returns-then-self-link t c = search hull_out

pub returns : goal.returns
returns t c = search hull_on
