-- Any two answers, and any two exits, that a promise allows are equal.
use mathlib.Core.Path.{◌≡◌, refl, sym, ap, ◌∙◌}
use mathlib.Core.Bool.{Bool, cond}
use Rattle.std.specs.Prelude.{Result, Ok, Err}
use Prim.Native.Nat.{ℕ}
use lib.Dec.{eqb}
use borrow.Author.Tests.{ne_eqb}
use native.Mathlib.Omega.{arith}
use contract.Lifetimes.{Lfts}
use borrow.Fn.Kinds as K
use denote.Triple.Clauses.{AtExit}
use Rattle.words.proofs.Refusals.{refusal_at, at_number, number_pos}
use Rattle.words.specs.Refusals.{refusal_number}
use Rattle.bitvec.specs.Calls.{Bits, numbers}
use Rattle.words.specs.declared.refusal.Refusal.{Refusal}
use Rattle.bitvec.specs.declared.BitVec.{BitVec}
use Rattle.bitvec.proofs.BitVec.from_elem.Reads as from-elem-reads
use Rattle.bitvec.proofs.BitVec.from_elem.Kinds as from-elem-kinds
use Rattle.bitvec.proofs.BitVec.get.Reads as get-reads
use Rattle.bitvec.proofs.BitVec.get.Kinds as get-kinds
use Rattle.bitvec.proofs.BitVec.set.Reads as set_Reads
use Rattle.bitvec.proofs.BitVec.set.Kinds as set-kinds
use Rattle.bitvec.proofs.BitVec.push.Reads as push-reads
use Rattle.bitvec.proofs.BitVec.push.Kinds as push-kinds
use Rattle.bitvec.proofs.BitVec.pop.Reads as pop-reads
use Rattle.bitvec.proofs.BitVec.pop.Kinds as pop-kinds
use Rattle.bitvec.proofs.BitVec.swap_remove.Reads as swap-remove-reads
use Rattle.bitvec.proofs.BitVec.swap_remove.Kinds as swap-remove-kinds

-- its numbers say which answer it is
abbrev answer_of : Bits → Result (Bool × BitVec) Refusal
answer_of x = cond (eqb x.no 0) (Ok (x.bit, record { len = x.len })) (Err (refusal_at x.no))

answer_back : (given : ℕ) (r : Result (Bool × BitVec) Refusal) → answer_of (numbers given r) ≡ r
answer_back given (Ok (b, v)) = refl
answer_back given (Err y) = rw (ne_eqb (refusal_number y) 0 (omega (arith, number_pos y)), at_number y)

pub numbers_injective : (given : ℕ) (r t : Result (Bool × BitVec) Refusal) (x : Bits) → numbers given r ≡ x → numbers given t ≡ x → r ≡ t
numbers_injective given r t x p q = sym (answer_back given r) ∙ ap answer_of (p ∙ sym q) ∙ answer_back given t

pub from-elem-determined :
    (κs : Lfts 1) (a : K.Dens κs from-elem-kinds.ps) (r r' : (K.res_t from-elem-kinds.r κs).Denot) (s s' : AtExit (K.ended_of 1 from-elem-kinds.ps from-elem-kinds.r) κs)
    → from-elem-reads.Post κs a r s → from-elem-reads.Post κs a r' s' → (r ≡ r') × (s.0.now ≡ s'.0.now)
from-elem-determined κs a r r' s s' p q = (numbers_injective _ r r' _ p.0 q.0, p.1 ∙ sym q.1)

pub get-determined :
    (κs : Lfts 1) (a : K.Dens κs get-kinds.ps) (r r' : (K.res_t get-kinds.r κs).Denot) (s s' : AtExit (K.ended_of 1 get-kinds.ps get-kinds.r) κs)
    → get-reads.Post κs a r s → get-reads.Post κs a r' s' → r ≡ r'
get-determined κs a r r' s s' p q = numbers_injective _ r r' _ p q

pub set-determined :
    (κs : Lfts 1) (a : K.Dens κs set-kinds.ps) (r r' : (K.res_t set-kinds.r κs).Denot) (s s' : AtExit (K.ended_of 1 set-kinds.ps set-kinds.r) κs)
    → set_Reads.Post κs a r s → set_Reads.Post κs a r' s' → (r ≡ r') × (s.1.0.now ≡ s'.1.0.now)
set-determined κs a r r' s s' p q = (numbers_injective _ r r' _ p.0 q.0, p.1 ∙ sym q.1)

pub push-determined :
    (κs : Lfts 1) (a : K.Dens κs push-kinds.ps) (r r' : (K.res_t push-kinds.r κs).Denot) (s s' : AtExit (K.ended_of 1 push-kinds.ps push-kinds.r) κs)
    → push-reads.Post κs a r s → push-reads.Post κs a r' s' → (r ≡ r') × (s.1.0.now ≡ s'.1.0.now)
push-determined κs a r r' s s' p q = (numbers_injective _ r r' _ p.0 q.0, p.1 ∙ sym q.1)

pub pop-determined :
    (κs : Lfts 1) (a : K.Dens κs pop-kinds.ps) (r r' : (K.res_t pop-kinds.r κs).Denot) (s s' : AtExit (K.ended_of 1 pop-kinds.ps pop-kinds.r) κs)
    → pop-reads.Post κs a r s → pop-reads.Post κs a r' s' → r ≡ r'
pop-determined κs a r r' s s' p q = numbers_injective _ r r' _ p q

pub swap-remove-determined :
    (κs : Lfts 1) (a : K.Dens κs swap-remove-kinds.ps) (r r' : (K.res_t swap-remove-kinds.r κs).Denot) (s s' : AtExit (K.ended_of 1 swap-remove-kinds.ps swap-remove-kinds.r) κs)
    → swap-remove-reads.Post κs a r s → swap-remove-reads.Post κs a r' s' → (r ≡ r') × (s.1.0.now ≡ s'.1.0.now)
swap-remove-determined κs a r r' s s' p q = (numbers_injective _ r r' _ p.0 q.0, p.1 ∙ sym q.1)
