use Rattle.slotshell_view.proofs.Laws.{touching_dry, touching_out, touching_on, few}
use Rattle.slotshell_view.proofs.nodes.View.+touching_below.Goals as goal

pub returns-then-height-eq0 : goal.returns-then-height-eq0
returns-then-height-eq0 t c = touching_dry _ _ _ _ _ c.if-height-eq0.true

pub returns-then-self-link : goal.returns-then-self-link
returns-then-self-link t c = touching_out _ _ _ _ _ c.if-self-link.true

pub returns : goal.returns
returns t c = (search touching_on, search few)
