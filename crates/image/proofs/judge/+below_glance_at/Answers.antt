use native.Mathlib.Omega.{arith}
use Prim.Native.Nat.{◌<◌}
use Rattle.audit.proofs.Laws.{room, dry, ended, outside, untied, alive, alone, entered}
use Rattle.image.proofs.judge.+below_glance_at.Goals as goal

pub below-node_in-requires : goal.below-node_in-requires
below-node_in-requires t c = let q : c.args.link < c.args.count = search alive in omega arith

pub below-glance_at-requires : goal.below-glance_at-requires
below-glance_at-requires t c = omega (arith, c.requires)

pub below-returns-then-is_leaf : goal.below-returns-then-is_leaf
below-returns-then-is_leaf t c = search alone

pub below-returns-else-is_leaf : goal.below-returns-else-is_leaf
below-returns-else-is_leaf t c = c.glance_at.ensures

pub glance_at-returns-then-height-eq0 : goal.glance_at-returns-then-height-eq0
glance_at-returns-then-height-eq0 t c = search dry

pub glance_at-returns-then-link-eq-U : goal.glance_at-returns-then-link-eq-U
glance_at-returns-then-link-eq-U t c = search ended

pub glance_at-returns-then-count-link : goal.glance_at-returns-then-count-link
glance_at-returns-then-count-link t c = search outside

pub glance_at-below-r-requires : goal.glance_at-below-r-requires
glance_at-below-r-requires t c = omega (arith, c.requires)

pub glance_at-join-requires : goal.glance_at-join-requires
glance_at-join-requires t c = room _ _ _ _ _ _ _ _ _ _
    c.below-l.ensures
    c.below-r.ensures
    (omega (arith, c.requires))

pub glance_at-returns-then-is_tied : goal.glance_at-returns-then-is_tied
glance_at-returns-then-is_tied t c = entered _ _ _ _ _ _ _ _
    c.if-height-eq0.false
    c.if-link-eq-U.false
    c.if-count-link.false
    _ _
    c.node_in-x.ensures
    c.is_tied.ensures
    _ _
    c.join.ensures
    c.if-is_tied.true
    c.below-l.ensures
    c.below-r.ensures

pub glance_at-returns-else-is_tied : goal.glance_at-returns-else-is_tied
glance_at-returns-else-is_tied t c = search untied
