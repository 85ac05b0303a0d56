-- The pairs are determined: two that name the same list are equal.
use mathlib.Core.Path.{◌≡◌, refl, sym, ◌∙◌}
use mathlib.Core.List.{List, [], ◌∷◌}
use Prim.Native.Nat.{ℕ, suc, ◌+◌, ◌<◌, ◌≤◌}
use native.Mathlib.Omega.{arith}
use lib.ListN.{length}
use borrow.Author.Tests.{eq-eqb}
use Rattle.tree.specs.Tree.{hit}
use Rattle.tree.proofs.Cases.{compare}
use Rattle.tree.proofs.Slots.{hit_same, hit_ne, hit_cases, hit_eq, hit_zero}
use Rattle.words.specs.declared.pair.Pair.{Pair}
use Rattle.words.specs.declared.pair.Pairs.{Pairs}
use Rattle.tree_rm_rule.specs.Names.{same, tally, Rest, Names}
use Rattle.tree_rm_rule.proofs.PairLaws.{same_else, same_here}

-- Pairs by rising old slot, each from k up, and then (U, U).
abbrev Row : ℕ → ℕ → List Pair → Type 0
Row n k [] = Unit {0}
Row n k (p ∷ l) = Rest n p × (p.old < n → k ≤ p.old) × Row n (suc p.old) l

same_self : (p : Pair) → same p.old p.new p ≡ 1
same_self p = same_here p.old p.new p.new ∙ hit_same p.new

same_other : (a b : ℕ) (p : Pair) → hit a p.old ≡ 0 → same a b p ≡ 0
same_other a b p z = same_else a b p (hit_zero a p.old z)

same_told : (p q : Pair) → p.old ≡ q.old → 0 < same p.old p.new q → p ≡ q
unfolding same
same_told p q e o =
    let h : 0 < hit p.new q.new = rw (eq-eqb p.old q.old e) at o in
    let f : p.new ≡ q.new = hit_eq p.new q.new h in
    λ t. record { old = e t; new = f t }

-- a pair that stands in a row has an old slot from k up
row_from : (n k : ℕ) (l : List Pair) (a b : ℕ) → Row n k l → a < n → 0 < tally a b l → k ≤ a
row_from n k [] a b h u o = absurd (omega arith)
row_from n k (p ∷ l) a b h u o =
    hit_cases a p.old
    (λ e. omega (arith, h.1 (omega arith)))
    (λ z. let i : suc p.old ≤ a = row_from n (suc p.old) l a b h.2 u (omega (arith, same_other a b p z)) in
    omega (arith, h.1 (omega arith)))

module _ (n : ℕ) where
  -- a pair that is told stands first in either row
  first_told : (k : ℕ) (p q : Pair) (l m : List Pair) → Row n k (p ∷ l) → Row n k (q ∷ m)
      → ((a b : ℕ) → a < n → tally a b (p ∷ l) ≡ tally a b (q ∷ m)) → p.old < n → p ≡ q
  first_told k p q l m g h e u =
      hit_cases p.old q.old
      (λ i. same_told p q i (compare (tally p.old p.new m) 0
      (λ z. omega (arith, same_self p, e p.old p.new u))
      (λ z. omega (arith, row_from n (suc q.old) m p.old p.new h.2 u z))))
      (λ z. let w : suc q.old ≤ p.old =
      row_from n (suc q.old) m p.old p.new h.2 u (omega (arith, same_self p, same_other p.old p.new q z, e p.old p.new u)) in
      let y : suc p.old ≤ q.old =
      row_from n (suc p.old) l q.old q.new g.2 (omega arith)
      (omega (arith, same_self q, same_other q.old q.new p (hit_ne q.old p.old (omega arith)), e q.old q.new (omega arith))) in
      absurd (omega arith))

  first_same : (k : ℕ) (p q : Pair) (l m : List Pair) → Row n k (p ∷ l) → Row n k (q ∷ m)
      → ((a b : ℕ) → a < n → tally a b (p ∷ l) ≡ tally a b (q ∷ m)) → p ≡ q
  first_same k p q l m g h e =
      compare n p.old
      (λ i. compare n q.old
      (λ j. g.0 i ∙ sym (h.0 j))
      (λ j. sym (first_told k q p m l h g (λ a b u. sym (e a b u)) j)))
      (λ i. first_told k p q l m g h e i)

  rows_same : (k : ℕ) (l m : List Pair) → Row n k l → Row n k m → length l ≡ length m
      → ((a b : ℕ) → a < n → tally a b l ≡ tally a b m) → l ≡ m
  rows_same k [] [] g h w e = refl
  rows_same k [] (q ∷ m) g h w e = absurd (omega arith)
  rows_same k (p ∷ l) [] g h w e = absurd (omega arith)
  rows_same k (p ∷ l) (q ∷ m) g h w e =
      let i : q ≡ p = sym (first_same k p q l m g h e) in
      let h' : Row n (suc p.old) m = rw i at h.2 in
      let e' : (a b : ℕ) → a < n → tally a b l ≡ tally a b m =
      λ a b u. let o : same a b p + tally a b l ≡ same a b p + tally a b m = rw i at (e a b u) in omega arith in
      rw (i, rows_same (suc p.old) l m g.2 h' (omega arith) e')

abbrev listed : Pairs → List Pair
listed P = P.first ∷ P.second ∷ P.third ∷ []

names_row : (n : ℕ) (P : Pairs) (l : List Pair) → n ≤ 65535 → Names n P l → Row n 0 (listed P)
names_row n P l small h = (
  h.rest_first,
  λ u. omega arith,
  (h.rest_second, λ u. h.rise_first (omega arith), (h.rest_third, λ u. h.rise_second (omega arith), tt)),
)

pub names_unique : (n : ℕ) (P Q : Pairs) (l : List Pair) → n ≤ 65535 → Names n P l → Names n Q l → P ≡ Q
names_unique n P Q l small g h =
    let e : listed P ≡ listed Q =
    rows_same n 0 (listed P) (listed Q) (names_row n P l small g) (names_row n Q l small h) refl (λ a b u. g.exact a b u ∙ sym (h.exact a b u)) in
    let x : P.first ≡ Q.first = cc in
    let y : P.second ≡ Q.second = cc in
    let z : P.third ≡ Q.third = cc in
    λ t. record { first = x t; second = y t; third = z t }
