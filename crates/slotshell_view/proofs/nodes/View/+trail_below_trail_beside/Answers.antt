use Rattle.slotshell_view.proofs.Laws.{trail_dry, trail_out, trail_on}
use Rattle.slotshell_view.proofs.nodes.View.+trail_below_trail_beside.Goals as goal

pub trail_below-returns-then-height-eq0 : goal.trail_below-returns-then-height-eq0
trail_below-returns-then-height-eq0 t c = search trail_dry

pub trail_below-returns-then-self-link : goal.trail_below-returns-then-self-link
trail_below-returns-then-self-link t c = search trail_out

pub trail_below-returns : goal.trail_below-returns
trail_below-returns t c = search trail_on
