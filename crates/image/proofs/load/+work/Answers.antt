use Rattle.image.proofs.Loads.{work_dry, work_out, work_on}
use Rattle.image.proofs.load.+work.Goals as goal

pub returns-then-height-eq0 : goal.returns-then-height-eq0
returns-then-height-eq0 t c = search work_dry

pub returns-then-count-link : goal.returns-then-count-link
returns-then-count-link t c = search work_out

pub returns : goal.returns
returns t c = work_on _ _ _ _ _ _ _ _ _ _
    c.if-height-eq0.false
    c.if-count-link.false
    c.child_of-left.ensures.0
    c.child_of-right.ensures.0
    c.work.ensures
    c.work-2.ensures
    c.update_subtree_interval.ensures
