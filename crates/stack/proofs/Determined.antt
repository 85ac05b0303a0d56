-- Any two answers that a promise allows are equal.
use mathlib.Core.Path.{◌≡◌, refl, sym, ap, ◌∙◌}
use mathlib.Core.Bool.{Bool, cond}
use lib.Dec.{eqb}
use borrow.Author.Tests.{ne_eqb}
use native.Mathlib.Omega.{arith}
use contract.Lifetimes.{Lfts}
use borrow.Fn.Kinds as K
use denote.Triple.Clauses.{AtExit}
use Rattle.words.proofs.Refusals.{refusal_at, at_number, number_pos}
use Rattle.words.specs.Refusals.{refusal_number}
use Rattle.stack.specs.Calls.{Told, numbers}
use Rattle.stack.specs.declared.ActionStack.{ActionStack}
use Rattle.std.specs.Prelude.{Result, Ok, Err}
use Rattle.words.specs.declared.refusal.Refusal.{Refusal}
use Rattle.stack.proofs.ActionStack.new.Reads as new-reads
use Rattle.stack.proofs.ActionStack.new.Kinds as new-kinds
use Rattle.stack.proofs.ActionStack.push.Reads as push-reads
use Rattle.stack.proofs.ActionStack.push.Kinds as push-kinds
use Rattle.stack.proofs.ActionStack.pop.Reads as pop-reads
use Rattle.stack.proofs.ActionStack.pop.Kinds as pop-kinds
use Rattle.stack.proofs.ActionStack.can_go_left.Reads as can-go-left-reads
use Rattle.stack.proofs.ActionStack.can_go_left.Kinds as can-go-left-kinds
use Rattle.stack.proofs.ActionStack.go_left.Reads as go-left-reads
use Rattle.stack.proofs.ActionStack.go_left.Kinds as go-left-kinds
use Rattle.stack.proofs.ActionStack.can_match.Reads as can-match-reads
use Rattle.stack.proofs.ActionStack.can_match.Kinds as can-match-kinds
use Rattle.stack.proofs.ActionStack.make_match.Reads as make-match-reads
use Rattle.stack.proofs.ActionStack.make_match.Kinds as make-match-kinds
use Rattle.stack.proofs.ActionStack.can_go_right.Reads as can-go-right-reads
use Rattle.stack.proofs.ActionStack.can_go_right.Kinds as can-go-right-kinds
use Rattle.stack.proofs.ActionStack.go_right.Reads as go-right-reads
use Rattle.stack.proofs.ActionStack.go_right.Kinds as go-right-kinds
use Rattle.stack.proofs.ActionStack.is_empty.Reads as is-empty-reads
use Rattle.stack.proofs.ActionStack.is_empty.Kinds as is-empty-kinds

-- its numbers say which answer it is
abbrev answer_of : Told → Result (Bool × ActionStack) Refusal
answer_of x = cond (eqb x.no 0) (Ok (x.yes, x.stack)) (Err (refusal_at x.no))

answer_back : (given : ActionStack) (r : Result (Bool × ActionStack) Refusal) → answer_of (numbers given r) ≡ r
answer_back given (Ok (b, s)) = refl
answer_back given (Err y) = rw (ne_eqb (refusal_number y) 0 (omega (arith, number_pos y)), at_number y)

pub numbers_injective : (given : ActionStack) (r t : Result (Bool × ActionStack) Refusal) (x : Told) → numbers given r ≡ x → numbers given t ≡ x → r ≡ t
numbers_injective given r t x p q = sym (answer_back given r) ∙ ap answer_of (p ∙ sym q) ∙ answer_back given t

pub new-determined :
    (κs : Lfts 0) (a : K.Dens κs new-kinds.ps) (r r' : (K.res_t new-kinds.r κs).Denot) (s s' : AtExit (K.ended_of 0 new-kinds.ps new-kinds.r) κs)
    → new-reads.Post κs a r s → new-reads.Post κs a r' s' → r ≡ r'
new-determined κs a r r' s s' p q = p ∙ sym q

pub push-determined :
    (κs : Lfts 0) (a : K.Dens κs push-kinds.ps) (r r' : (K.res_t push-kinds.r κs).Denot) (s s' : AtExit (K.ended_of 0 push-kinds.ps push-kinds.r) κs)
    → push-reads.Post κs a r s → push-reads.Post κs a r' s' → r ≡ r'
push-determined κs a r r' s s' p q = numbers_injective _ r r' _ p q

pub pop-determined :
    (κs : Lfts 0) (a : K.Dens κs pop-kinds.ps) (r r' : (K.res_t pop-kinds.r κs).Denot) (s s' : AtExit (K.ended_of 0 pop-kinds.ps pop-kinds.r) κs)
    → pop-reads.Post κs a r s → pop-reads.Post κs a r' s' → r ≡ r'
pop-determined κs a r r' s s' p q = numbers_injective _ r r' _ p q

pub can-go-left-determined :
    (κs : Lfts 0) (a : K.Dens κs can-go-left-kinds.ps) (r r' : (K.res_t can-go-left-kinds.r κs).Denot) (s s' : AtExit (K.ended_of 0 can-go-left-kinds.ps can-go-left-kinds.r) κs)
    → can-go-left-reads.Post κs a r s → can-go-left-reads.Post κs a r' s' → r ≡ r'
can-go-left-determined κs a r r' s s' p q = numbers_injective _ r r' _ p q

pub go-left-determined :
    (κs : Lfts 0) (a : K.Dens κs go-left-kinds.ps) (r r' : (K.res_t go-left-kinds.r κs).Denot) (s s' : AtExit (K.ended_of 0 go-left-kinds.ps go-left-kinds.r) κs)
    → go-left-reads.Post κs a r s → go-left-reads.Post κs a r' s' → r ≡ r'
go-left-determined κs a r r' s s' p q = numbers_injective _ r r' _ p q

pub can-match-determined :
    (κs : Lfts 0) (a : K.Dens κs can-match-kinds.ps) (r r' : (K.res_t can-match-kinds.r κs).Denot) (s s' : AtExit (K.ended_of 0 can-match-kinds.ps can-match-kinds.r) κs)
    → can-match-reads.Post κs a r s → can-match-reads.Post κs a r' s' → r ≡ r'
can-match-determined κs a r r' s s' p q = numbers_injective _ r r' _ p q

pub make-match-determined :
    (κs : Lfts 0) (a : K.Dens κs make-match-kinds.ps) (r r' : (K.res_t make-match-kinds.r κs).Denot) (s s' : AtExit (K.ended_of 0 make-match-kinds.ps make-match-kinds.r) κs)
    → make-match-reads.Post κs a r s → make-match-reads.Post κs a r' s' → r ≡ r'
make-match-determined κs a r r' s s' p q = numbers_injective _ r r' _ p q

pub can-go-right-determined :
    (κs : Lfts 0) (a : K.Dens κs can-go-right-kinds.ps) (r r' : (K.res_t can-go-right-kinds.r κs).Denot) (s s' : AtExit (K.ended_of 0 can-go-right-kinds.ps can-go-right-kinds.r) κs)
    → can-go-right-reads.Post κs a r s → can-go-right-reads.Post κs a r' s' → r ≡ r'
can-go-right-determined κs a r r' s s' p q = numbers_injective _ r r' _ p q

pub go-right-determined :
    (κs : Lfts 0) (a : K.Dens κs go-right-kinds.ps) (r r' : (K.res_t go-right-kinds.r κs).Denot) (s s' : AtExit (K.ended_of 0 go-right-kinds.ps go-right-kinds.r) κs)
    → go-right-reads.Post κs a r s → go-right-reads.Post κs a r' s' → r ≡ r'
go-right-determined κs a r r' s s' p q = numbers_injective _ r r' _ p q

pub is-empty-determined :
    (κs : Lfts 0) (a : K.Dens κs is-empty-kinds.ps) (r r' : (K.res_t is-empty-kinds.r κs).Denot) (s s' : AtExit (K.ended_of 0 is-empty-kinds.ps is-empty-kinds.r) κs)
    → is-empty-reads.Post κs a r s → is-empty-reads.Post κs a r' s' → r ≡ r'
is-empty-determined κs a r r' s s' p q = numbers_injective _ r r' _ p q
