-- Any two answers and any two records at exit that a promise allows are equal, of the calls on the
-- record and of those that lend it.
use mathlib.Core.Path.{◌≡◌, refl, sym, ap, ◌∙◌}
use mathlib.Core.Bool.{cond}
use lib.Dec.{eqb}
use borrow.Author.Tests.{ne_eqb}
use native.Mathlib.Omega.{arith}
use seplogic.Ra.Ura.{Ura}
use base.Logic.{SProp, ent, sep, fst∗, snd∗}
use prog.Memory.{Memory}
use prog.Routine.{Routine}
use types.Logic.{Logic}
use contract.Lifetimes.{Lfts}
use contract.Monad.{Fun, fact, fact_i, fact_use}
use borrow.Fn.Kinds as K
use denote.Triple.Entry.{Args}
use denote.Triple.Clauses.{Clauses, AtExit}
use Rattle.words.proofs.Refusals.{refusal_at, at_number, number_pos}
use Rattle.words.specs.Refusals.{refusal_number}
use Rattle.stack.specs.Calls.{Told, lent}
use Rattle.stack.specs.declared.ActionStack.{ActionStack}
use Rattle.std.specs.Prelude.{Result, Ok, Err}
use Rattle.words.specs.declared.refusal.Refusal.{Refusal}
use Rattle.stack.specs.declared.lending.After.{After}
use Rattle.stack.specs.contracts.lent.push as lent-push
use Rattle.stack.specs.contracts.lent.go_left as lent-go-left
use Rattle.stack.specs.contracts.lent.make_match as lent-make-match
use Rattle.stack.specs.contracts.lent.go_right as lent-go-right
use Rattle.stack.specs.contracts.lent.pop as lent-pop
use Rattle.stack.proofs.lending.push.Kinds as kinds
use Rattle.stack.proofs.lending.push.Reads as push-reads
use Rattle.stack.proofs.lending.go_left.Reads as go-left-reads
use Rattle.stack.proofs.lending.make_match.Reads as make-match-reads
use Rattle.stack.proofs.lending.go_right.Reads as go-right-reads
use Rattle.stack.proofs.lending.pop.Reads as pop-reads

-- its numbers say which outcome it is
abbrev outcome_at : Told → Result Unit Refusal
outcome_at x = cond (eqb x.no 0) (Ok tt) (Err (refusal_at x.no))

outcome_back : (r : Result Unit Refusal) (s : ActionStack) → (outcome_at (lent r s) ≡ r) × ((lent r s).stack ≡ s)
outcome_back (Ok tt) s = (refl, refl)
outcome_back (Err y) s = (rw (ne_eqb (refusal_number y) 0 (omega (arith, number_pos y)), at_number y), refl)

lent_injective : (r t : Result Unit Refusal) (s u : ActionStack) → lent r s ≡ lent t u → (r ≡ t) × (s ≡ u)
lent_injective r t s u e =
    (sym (outcome_back r s).0 ∙ ap outcome_at e ∙ (outcome_back t u).0, sym (outcome_back r s).1 ∙ ap (λ (x : Told). x.stack) e ∙ (outcome_back t u).1)

-- the calls on the record, whose clauses are assertions: a promise kept by two answers and two
-- records makes them equal
module _ {M : Type 1} (𝓤 : Ura M) where
  abbrev Determines : Clauses 𝓤 lent-push.ended → Type 1
  Determines c =
      (κs : Lfts 1) (a : Args lent-push.signature κs) (g g' : (c κs a).ghost) (r r' : Result Unit Refusal) (s s' : AtExit lent-push.ended κs)
      → ent 𝓤 (sep 𝓤 ((c κs a).ensures g r s) ((c κs a).ensures g' r' s')) (fact 𝓤 ((r ≡ r') × (s.0.now ≡ s'.0.now)))

  module _ (x : Told) (r r' : Result Unit Refusal) (s s' : ActionStack) where
    abbrev P : SProp 𝓤
    P = fact 𝓤 (lent r s ≡ x)

    abbrev Q : SProp 𝓤
    Q = fact 𝓤 (lent r' s' ≡ x)

    both_kept : ent 𝓤 (sep 𝓤 P Q) (fact 𝓤 ((r ≡ r') × (s ≡ s')))
    both_kept =
        fact_use 𝓤 (lent r s ≡ x) (fst∗ 𝓤 P Q) (λ p.
        fact_use 𝓤 (lent r' s' ≡ x) (snd∗ 𝓤 P Q) (λ q.
        fact_i 𝓤 ((r ≡ r') × (s ≡ s')) (sep 𝓤 P Q) (lent_injective r r' s s' (p ∙ sym q))))

  module _ (𝓛 : Logic 𝓤) (mem : Memory → SProp 𝓤) (run : Routine → Fun 𝓤) where
    pub lent_push_determined : Determines (lent-push.clauses 𝓛 mem run)
    lent_push_determined κs a g g' r r' s s' = both_kept _ r r' s.0.now s'.0.now

    pub lent_go_left_determined : Determines (lent-go-left.clauses 𝓛 mem run)
    lent_go_left_determined κs a g g' r r' s s' = both_kept _ r r' s.0.now s'.0.now

    pub lent_make_match_determined : Determines (lent-make-match.clauses 𝓛 mem run)
    lent_make_match_determined κs a g g' r r' s s' = both_kept _ r r' s.0.now s'.0.now

    pub lent_go_right_determined : Determines (lent-go-right.clauses 𝓛 mem run)
    lent_go_right_determined κs a g g' r r' s s' = both_kept _ r r' s.0.now s'.0.now

    pub lent_pop_determined : Determines (lent-pop.clauses 𝓛 mem run)
    lent_pop_determined κs a g g' r r' s s' = both_kept _ r r' s.0.now s'.0.now

-- the calls that lend a stack held by value
abbrev Promise : Type 1
Promise = (κs : Lfts 0) → K.Dens κs kinds.ps → After → AtExit (K.ended_of 0 kinds.ps kinds.r) κs → Type 0

abbrev Answers_once : Promise → Type 0
Answers_once Post = (κs : Lfts 0) (a : K.Dens κs kinds.ps) (r r' : After) (s s' : AtExit (K.ended_of 0 kinds.ps kinds.r) κs) → Post κs a r s → Post κs a r' s' → r ≡ r'

after_injective : (r t : After) (x : Told) → lent r.outcome r.stack ≡ x → lent t.outcome t.stack ≡ x → r ≡ t
after_injective r t x p q =
    let e : (r.outcome ≡ t.outcome) × (r.stack ≡ t.stack) = lent_injective r.outcome t.outcome r.stack t.stack (p ∙ sym q) in
    λ i. record { outcome = e.0 i; stack = e.1 i }

pub lending_push_determined : Answers_once push-reads.Post
lending_push_determined κs a r r' s s' p q = after_injective r r' _ p q

pub lending_go_left_determined : Answers_once go-left-reads.Post
lending_go_left_determined κs a r r' s s' p q = after_injective r r' _ p q

pub lending_make_match_determined : Answers_once make-match-reads.Post
lending_make_match_determined κs a r r' s s' p q = after_injective r r' _ p q

pub lending_go_right_determined : Answers_once go-right-reads.Post
lending_go_right_determined κs a r r' s s' p q = after_injective r r' _ p q

pub lending_pop_determined : Answers_once pop-reads.Post
lending_pop_determined κs a r r' s s' p q = after_injective r r' _ p q
