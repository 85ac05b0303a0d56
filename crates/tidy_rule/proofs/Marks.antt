-- The test of a plan by marks says yes exactly to a plan that names each slot once.
use mathlib.Core.Path.{◌≡◌, refl, sym, subst}
use mathlib.Core.Logic.{◌≢◌}
use mathlib.Core.Bool.{Bool, true, false, cond, not, ◌&&◌}
use mathlib.Core.List.{List, [], ◌∷◌}
use Prim.Native.Nat.{ℕ, zero, suc, ◌+◌, ◌*◌, ◌/◌, ◌%◌, ◌<◌, ◌≤◌}
use native.Mathlib.Omega.{arith}
use lib.Dec.{ltb}
use lib.ListN.{length, get_or, replicate, length-replicate, get_or-replicate}
use borrow.Author.Tests.{ltb-true, lt-ltb, not-true, ne_eqb}
use Rattle.bitvec.specs.Bits.{bit, bit_at, set_bit}
use Rattle.bitvec.proofs.Bytes.{length_set_bit, bit_at_same, bit_at_other}
use Rattle.tree.specs.Tree.{times}
use Rattle.tree.proofs.Slots.{hit_same, hit_cases, hit_zero}
use Rattle.iter.proofs.Bools.{and_left, and_right}
use Rattle.tidy_rule.specs.Plan.{fits, all_new}
use Rattle.tidy_rule.proofs.Plans.{fits_is, is_fits, fits_one, plan_low}

-- a mark as a number
unfoldable held : List ℕ → ℕ → ℕ
held M v = cond (bit_at M v) 1 0

held_yes : (M : List ℕ) (v : ℕ) → bit_at M v ≡ true → held M v ≡ 1
unfolding held
held_yes M v e = rw e refl

held_no : (M : List ℕ) (v : ℕ) → bit_at M v ≡ false → held M v ≡ 0
unfolding held
held_no M v e = rw e refl

held_other : (M : List ℕ) (a v : ℕ) → v ≢ a → held (set_bit M a true) v ≡ held M v
unfolding held
held_other M a v d = rw (bit_at_other M a true v d) refl

-- what the test has found where it says yes, and where it has to say so
record Clear (n : ℕ) (M P : List ℕ) : Type 0 where
  low : (s : ℕ) → s < length P → get_or P s 0 < n
  few : (v : ℕ) → v < n → times v P + held M v ≤ 1

held_le : (M : List ℕ) (v : ℕ) → held M v ≤ 1
unfolding held
held_le M v = go (bit_at M v)
  where
    go : (t : Bool) → cond t 1 0 ≤ 1
    go true = omega arith
    go false = omega arith

not_held : (M : List ℕ) (v : ℕ) → held M v ≡ 0 → bit_at M v ≡ false
unfolding held
not_held M v = go (bit_at M v)
  where
    go : (t : Bool) → ◌≡◌ {A = ℕ} (cond t 1 0) 0 → t ≡ false
    go true z = absurd (omega arith)
    go false z = refl

module _ (n : ℕ) where
  module _ (a : ℕ) (P M : List ℕ) (fit : n ≤ length M * 8) (la : a < n) where
    marked : held (set_bit M a true) a ≡ 1
    marked = held_yes (set_bit M a true) a (bit_at_same M a true (omega arith))

    on : bit_at M a ≡ false → Clear n (set_bit M a true) P → Clear n M (a ∷ P)
    on free r =
        record {
          low = place;
          few = λ v h. hit_cases v a
              (λ q. subst (λ (x : ℕ). times x (a ∷ P) + held M x ≤ 1) (sym q) (omega (arith, hit_same a, marked, r.few a la, held_no M a free)))
              (λ z. omega (arith, held_other M a v (hit_zero v a z), r.few v h));
        }
      where
        place : (s : ℕ) → s < length (a ∷ P) → get_or (a ∷ P) s 0 < n
        place zero h = la
        place (suc s) h = r.low s (omega arith)

    back : Clear n M (a ∷ P) → (bit_at M a ≡ false) × Clear n (set_bit M a true) P
    back r = (
      not_held M a (omega (arith, r.few a la, hit_same a)),
      record {
        low = λ s h. r.low (suc s) (omega arith);
        few = λ v h. hit_cases v a
            (λ q. subst (λ (x : ℕ). times x P + held (set_bit M a true) x ≤ 1) (sym q) (omega (arith, hit_same a, marked, r.few a la)))
            (λ z. omega (arith, held_other M a v (hit_zero v a z), r.few v h));
      },
    )

  clear : (P M : List ℕ) → n ≤ length M * 8 → all_new n M P ≡ true → Clear n M P
  unfolding all_new
  clear [] M fit e = record { low = λ s h. absurd (omega arith); few = λ v h. omega (arith, held_le M v) }
  clear (a ∷ P) M fit e =
      let x : ltb a n && not (bit_at M a) ≡ true = and_left (ltb a n && not (bit_at M a)) (all_new n (set_bit M a true) P) e in
      let la : a < n = ltb-true a n (and_left (ltb a n) (not (bit_at M a)) x) in
      on a P M fit la (not-true (bit_at M a) (and_right (ltb a n) (not (bit_at M a)) x))
      (clear P (set_bit M a true) (rw length_set_bit fit) (and_right (ltb a n && not (bit_at M a)) (all_new n (set_bit M a true) P) e))

  news : (P M : List ℕ) → n ≤ length M * 8 → Clear n M P → all_new n M P ≡ true
  unfolding all_new
  news [] M fit c = refl
  news (a ∷ P) M fit c =
      let la : a < n = c.low 0 (omega arith) in
      let r = back a P M fit la c in
      rw (lt-ltb a n la, r.0, news P (set_bit M a true) (rw length_set_bit fit) r.1) refl

-- no mark at the start
bit_none : (j : ℕ) → bit 0 j ≡ false
unfolding bit
bit_none zero = refl
bit_none (suc j) = bit_none j

none_set : (v : ℕ) → v < 65536 → bit_at (replicate 8192 0) v ≡ false
unfolding bit_at
none_set v h = rw (get_or-replicate {A = ℕ} 8192 (v / 8) 0 0 (omega arith)) (bit_none (v % 8))

none_held : (v : ℕ) → v < 65536 → held (replicate 8192 0) v ≡ 0
none_held v h = held_no (replicate 8192 0) v (none_set v h)

both : (a b : Bool) → (a ≡ true → b ≡ true) → (b ≡ true → a ≡ true) → a ≡ b
both true b f g = sym (f refl)
both false true f g = g refl
both false false f g = refl

module _ (n : ℕ) (P : List ℕ) (small : n ≤ 65535) (long : length P ≡ n) where
  room : n ≤ length (replicate {A = ℕ} 8192 0) * 8
  room = omega (arith, length-replicate {A = ℕ} 8192 0)

  -- the test is the rule
  pub new_fits : all_new n (replicate 8192 0) P ≡ fits n P
  new_fits =
      both _ _
      (λ e. let c = clear n P (replicate 8192 0) room e in
      is_fits n P (fits_one n P long (λ s h. c.low s (omega (arith, long))) (λ v h. omega (arith, c.few v h))))
      (λ e. let w = fits_is n P e in
      news n P (replicate 8192 0) room
      (record { low = λ s h. plan_low n P w s (omega (arith, long)); few = λ v h. omega (arith, w.once v h, none_held v (omega arith)) }))

pub not_long : (n : ℕ) (P : List ℕ) → (length P ≡ n → ⊥) → false ≡ fits n P
unfolding fits
not_long n P d = rw (ne_eqb (length P) n d) refl
