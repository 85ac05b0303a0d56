use native.Mathlib.Omega.{arith}
use Prim.Native.Nat.{◌<◌}
use Rattle.audit.proofs.Laws.{room, dry, ended, outside, untied, alive, alone, entered}
use Rattle.audit.proofs.+below_survey_at.Goals as goal

pub below-node_at-requires : goal.below-node_at-requires
below-node_at-requires t c = let q : c.args.link < c.args.count = search alive in omega arith

pub below-survey_at-requires : goal.below-survey_at-requires
below-survey_at-requires t c = omega (arith, c.requires)

pub below-returns-then-is_leaf : goal.below-returns-then-is_leaf
below-returns-then-is_leaf t c = search alone

pub below-returns-else-is_leaf : goal.below-returns-else-is_leaf
below-returns-else-is_leaf t c = c.survey_at.ensures

pub survey_at-returns-then-height-eq0 : goal.survey_at-returns-then-height-eq0
survey_at-returns-then-height-eq0 t c = search dry

pub survey_at-returns-then-link-eq-U : goal.survey_at-returns-then-link-eq-U
survey_at-returns-then-link-eq-U t c = search ended

pub survey_at-returns-then-count-link : goal.survey_at-returns-then-count-link
survey_at-returns-then-count-link t c = search outside

pub survey_at-below-r-requires : goal.survey_at-below-r-requires
survey_at-below-r-requires t c = omega (arith, c.requires)

pub survey_at-combine-requires : goal.survey_at-combine-requires
survey_at-combine-requires t c = room _ _ _ _ _ _ _ _ _ _
    c.below-l.ensures
    c.below-r.ensures
    (omega (arith, c.requires))

pub survey_at-returns-then-is_tied : goal.survey_at-returns-then-is_tied
survey_at-returns-then-is_tied t c = entered _ _ _ _ _ _ _ _
    c.if-height-eq0.false
    c.if-link-eq-U.false
    c.if-count-link.false
    _ _
    c.node_at-x.ensures
    c.is_tied.ensures
    _ _
    c.combine.ensures
    c.if-is_tied.true
    c.below-l.ensures
    c.below-r.ensures

pub survey_at-returns-else-is_tied : goal.survey_at-returns-else-is_tied
survey_at-returns-else-is_tied t c = search untied
