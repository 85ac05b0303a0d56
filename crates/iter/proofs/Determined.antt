-- What a step promises determines its answer. The other functions promise an equation of the answer
-- and of each lent slice.
use mathlib.Core.Path.{◌≡◌, sym, ap, ◌∙◌}
use mathlib.Core.Bool.{false≢true}
use lib.Dec.{ltb}
use contract.Lifetimes.{Lfts}
use borrow.Fn.Kinds as K
use denote.Triple.Clauses.{AtExit}
use Rattle.iter.specs.Walk.{Answer}
use Rattle.iter.specs.Answers.{answer, is_hit_lem}
use Rattle.iter.specs.declared.seek.Step.{Step}
use Rattle.iter.specs.declared.seek.Step.TheVariants.{Hit, End}
use Rattle.iter.proofs.Cursor.step.Reads as step-reads
use Rattle.iter.proofs.Cursor.step.Kinds as step-kinds

-- the two equations of a step leave one answer
told_once : (r s : Step) → answer r ≡ answer s → is_hit_lem r ≡ is_hit_lem s → r ≡ s
told_once (Hit c e) (Hit d f) a b =
    let x : c ≡ d = ap (λ (k : Answer). k.next) a in
    let y : e ≡ f = ap (λ (k : Answer). k.entered) a in
    rw (x, y)
told_once (Hit c e) (End f) a b = absurd (false≢true (sym b))
told_once (End e) (Hit d f) a b = absurd (false≢true b)
told_once (End e) (End f) a b = ap End (ap (λ (k : Answer). k.entered) a)

pub step-determined :
    (κs : Lfts 1) (a : K.Dens κs step-kinds.ps) (r r' : (K.res_t step-kinds.r κs).Denot) (s s' : AtExit (K.ended_of 1 step-kinds.ps step-kinds.r) κs)
    → step-reads.Post κs a r s → step-reads.Post κs a r' s' → r ≡ r'
step-determined κs a r r' s s' p q =
    let e : answer r ≡ answer r' = p.0 ∙ sym q.0 in
    told_once r r' e (p.1 ∙ ap (λ (k : Answer). ltb k.slot a.1.1.1.0) e ∙ sym q.1)
