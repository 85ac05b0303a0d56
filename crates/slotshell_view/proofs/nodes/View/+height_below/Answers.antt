use native.Mathlib.Omega.{arith}
use Rattle.slotshell_view.proofs.Laws.{height_dry, height_out, height_on}
use Rattle.slotshell_view.proofs.nodes.View.+height_below.Goals as goal

pub returns-then-height-eq0 : goal.returns-then-height-eq0
returns-then-height-eq0 t c = height_dry _ _ _ _ c.if-height-eq0.true

pub returns-then-self-link : goal.returns-then-self-link
returns-then-self-link t c = height_out _ _ _ _ c.if-self-link.true

pub returns : goal.returns
returns t c = (search height_on, omega arith)
