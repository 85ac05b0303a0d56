-- The moved pairs name exactly the entries that changed slot, by rising old slot.
use mathlib.Core.Path.{◌≡◌, refl, sym, ◌∙◌}
use mathlib.Core.Logic.{◌≢◌}
use mathlib.Core.Bool.{Bool, true, false, cond, ◌||◌}
use mathlib.Core.List.{List, [], ◌∷◌, map}
use Prim.Native.Nat.{ℕ, ◌+◌, ◌*◌, ◌<◌, ◌≤◌, min, max}
use native.Mathlib.Omega.{arith}
use lib.Dec.{eqb, leb, ltb}
use borrow.Author.Tests.{eqb-false, eq-eqb, ne_eqb, ltb-true, ltb-false, leb-false, lt-leb}
use Rattle.words.specs.Ix.{U}
use Rattle.tree.specs.Tree.{hit, times}
use Rattle.tree.proofs.Cases.{compare}
use Rattle.tree.proofs.Slots.{hit_same, hit_ne, hit_cases, hit_zero}
use Rattle.tree_rm_rule.specs.Pairs.{none, emptied, home, named, lower, upper, by_old_slot, moved}
use Rattle.words.specs.declared.pair.Pair.{Pair}
use Rattle.tree_rm_rule.specs.Names.{changed, same, tally, Rest, Names}
use Rattle.tree_rm_rule.proofs.Rows.{moved_to_other}

pub same_else : (a b : ℕ) (p : Pair) → a ≢ p.old → same a b p ≡ 0
unfolding same
same_else a b p d = rw (ne_eqb a p.old d)

pub same_here : (a b d : ℕ) → same a b (record { old = a; new = d }) ≡ hit b d
unfolding same
same_here a b d = rw (eq-eqb a a refl)

-- 1 where the entry of slot a goes from there to b
unfoldable goes : (ℕ → ℕ) → ℕ → ℕ → ℕ
goes f a b = cond (eqb a (f a)) 0 (hit b (f a))

-- how often the pair of a and b is told, where the entry of each slot c goes to f c
module _ (f : ℕ → ℕ) (a b : ℕ) where
  goes_nowhere : f a ≡ a → goes f a b ≡ 0
  unfolding goes
  goes_nowhere e = rw (eq-eqb a (f a) (sym e))

  tally_head : (c : ℕ) (l : List Pair)
      → tally a b (cond (eqb c (f c)) l (record { old = c; new = f c } ∷ l)) ≡ hit a c * goes f a b + tally a b l
  unfolding goes
  tally_head c l = hit_cases a c (λ e. rw (← e, hit_same a) (here (eqb a (f a)))) (λ z. rw z (else (hit_zero a c z) (eqb c (f c))))
    where
      here : (t : Bool) → tally a b (cond t l (record { old = a; new = f a } ∷ l)) ≡ 1 * cond t 0 (hit b (f a)) + tally a b l
      here true = omega arith
      here false = omega (arith, same_here a b (f a))

      else : a ≢ c → (t : Bool) → tally a b (cond t l (record { old = c; new = f c } ∷ l)) ≡ 0 * cond (eqb a (f a)) 0 (hit b (f a)) + tally a b l
      else d true = omega arith
      else d false = omega (arith, same_else a b (record { old = c; new = f c }) d)

  tally_changed : (l : List ℕ) → tally a b (changed l (map f l)) ≡ times a l * goes f a b
  tally_changed [] = omega arith
  tally_changed (c ∷ l) = tally_head c (changed l (map f l)) ∙ omega (arith, tally_changed l)

  -- a candidate c, left out where t
  same_candidate : a < U → (t : Bool) (c : ℕ) → same a b (cond t none (named c (f c))) ≡ cond t 0 (hit a c) * goes f a b
  unfolding named
  same_candidate u true c = omega (arith, same_else a b none (omega arith))
  same_candidate u false c = go (eqb c (f c)) ∙ tally_head c [] ∙ omega arith
    where
      go : (t : Bool) → same a b (cond t none (record { old = c; new = f c })) ≡ tally a b (cond t [] (record { old = c; new = f c } ∷ []))
      go true = same_else a b none (omega arith)
      go false = omega arith

-- sorting two
module _ (p q : Pair) where
  pub by_order : (P : Pair → Pair → Type 0) → (q.old < p.old → P q p) → (p.old ≤ q.old → P p q) → P (lower p q) (upper p q)
  unfolding lower upper
  by_order P x y = go (ltb q.old p.old) refl
    where
      go : (t : Bool) → ltb q.old p.old ≡ t → P (cond t q p) (cond t p q)
      go true e = x (ltb-true q.old p.old e)
      go false e = y (ltb-false q.old p.old e)

  same_two : (a b : ℕ) → same a b (lower p q) + same a b (upper p q) ≡ same a b p + same a b q
  same_two a b = by_order (λ i j. same a b i + same a b j ≡ same a b p + same a b q) (λ h. omega arith) (λ h. refl)

  rest_two : (n : ℕ) → Rest n p → Rest n q → Rest n (lower p q) × Rest n (upper p q)
  rest_two n x y = by_order (λ i j. Rest n i × Rest n j) (λ h. (y, x)) (λ h. (x, y))

  old_two : ((lower p q).old ≡ min p.old q.old) × ((upper p q).old ≡ max p.old q.old)
  old_two =
      by_order (λ i j. (i.old ≡ min p.old q.old) × (j.old ≡ max p.old q.old))
      (λ h. (omega arith, omega arith)) (λ h. (omega arith, omega arith))

-- three numbers sorted so rise strictly below U, if those below U differ
abbrev Differ : ℕ → ℕ → Type 0
Differ p q = p < U → q < U → p ≢ q

module _ (p q o : ℕ) (pq : Differ p q) (po : Differ p o) (qo : Differ q o) where
  first_rises : max (min p q) (min (max p q) o) < U → min (min p q) (min (max p q) o) < max (min p q) (min (max p q) o)
  first_rises u =
      compare p q
      (λ i. compare q o
      (λ j. let d : p ≢ q = pq (omega arith) (omega arith) in omega arith)
      (λ j. let d : p ≢ o = po (omega arith) (omega arith) in omega arith))
      (λ i. compare p o
      (λ j. omega arith)
      (λ j. let d : q ≢ o = qo (omega arith) (omega arith) in omega arith))

  second_rises : max (max p q) o < U → max (min p q) (min (max p q) o) < max (max p q) o
  second_rises u =
      compare p q
      (λ i. compare q o
      (λ j. let d : q ≢ o = qo (omega arith) (omega arith) in omega arith)
      (λ j. let d : p ≢ q = pq (omega arith) (omega arith) in omega arith))
      (λ i. compare p o
      (λ j. let d : p ≢ o = po (omega arith) (omega arith) in omega arith)
      (λ j. omega arith))

module _ (n : ℕ) (p q o : Pair) (l : List Pair) (exact : (a b : ℕ) → a < n → same a b p + same a b q + same a b o ≡ tally a b l)
    (pq : Differ p.old q.old) (po : Differ p.old o.old) (qo : Differ q.old o.old)
    (rp : Rest n p) (rq : Rest n q) (ro : Rest n o) where
  abbrev A : Pair
  A = lower p q

  abbrev B : Pair
  B = upper p q

  abbrev D : Pair
  D = lower B o

  names : Names n (by_old_slot p q o) l
  unfolding by_old_slot
  names =
      let (e₁, e₂) = old_two p q in
      let (e₃, e₄) = old_two B o in
      let (e₅, e₆) = old_two A D in
      let (x₁, x₂) = rest_two p q n rp rq in
      let (x₃, x₄) = rest_two B o n x₂ ro in
      let (x₅, x₆) = rest_two A D n x₁ x₃ in
      record {
        exact = λ a b i. omega (arith, same_two p q a b, same_two B o a b, same_two A D a b, exact a b i);
        rise_first = rw (e₅, e₆, e₃, e₁, e₂) (first_rises p.old q.old o.old pq po qo);
        rise_second = rw (e₄, e₆, e₃, e₁, e₂) (second_rises p.old q.old o.old pq po qo);
        rest_first = x₅;
        rest_second = x₆;
        rest_third = x₄;
      }

-- a candidate that is told is not left out, and its old slot is c
module _ (t : Bool) (c d : ℕ) where
  candidate_old : (cond t none (named c d)).old < U → (t ≡ false) × ((cond t none (named c d)).old ≡ c)
  unfolding named
  candidate_old = go t
    where
      inner : (i : Bool) → (cond i none (record { old = c; new = d })).old < U → (cond i none (record { old = c; new = d })).old ≡ c
      inner true u = absurd (omega arith)
      inner false u = refl

      go : (w : Bool) → (cond w none (named c d)).old < U → (w ≡ false) × ((cond w none (named c d)).old ≡ c)
      go true u = absurd (omega arith)
      go false u = (refl, inner (eqb c d) u)

  candidate_rest : (n : ℕ) → (t ≡ false → c < n) → Rest n (cond t none (named c d))
  unfolding named
  candidate_rest n h = go t refl
    where
      inner : c < n → (i : Bool) → Rest n (cond i none (record { old = c; new = d }))
      inner l true = λ x. refl
      inner l false = λ x. absurd (omega arith)

      go : (w : Bool) → t ≡ w → Rest n (cond w none (named c d))
      go true e = λ x. refl
      go false e = inner (h e) (eqb c d)

or_none : (i j : Bool) → i || j ≡ false → (i ≡ false) × (j ≡ false)
or_none false j e = (refl, e)
or_none true j e = let z : ◌≡◌ {A = ℕ} 0 1 = cc in absurd (omega arith)

-- The pairs of the rule, for the slots l of the entries that stay: all below n but s, once each.
module _ (n z s x y : ℕ) (l : List ℕ) (small : n ≤ 65535) (lz : z < n) (lx : x < n)
    (yx : y < n → y ≢ x) (ys : y < n → y ≢ s) (rows : (a : ℕ) → a < n → times a l + hit a s ≡ 1) where
  abbrev f : ℕ → ℕ
  f = home n z s x y

  abbrev known : Bool
  known = eqb z s || eqb z x || eqb z y

  -- the last slot is told where it is none of the others
  unknown : known ≡ false → (z ≢ s) × (z ≢ x) × (z ≢ y)
  unknown e =
      let (i, k) = or_none (eqb z s || eqb z x) (eqb z y) e in
      let (w, j) = or_none (eqb z s) (eqb z x) i in
      (eqb-false z s w, eqb-false z x j, eqb-false z y k)

  module _ (a b : ℕ) (u : a < n) where
    left_out : (t : Bool) (c : ℕ) → (t ≡ false → a ≢ c) → cond t 0 (hit a c) ≡ 0
    left_out true c h = refl
    left_out false c h = hit_ne a c (h refl)

    told : (t : Bool) (c : ℕ) → t ≡ false → a ≡ c → cond t 0 (hit a c) ≡ 1
    told t c e i = rw (e, ← i) (hit_same a)

    still : a ≢ x → a ≢ y → a ≢ z → f a ≡ a
    unfolding home
    still dx dy dz = rw (moved_to_other x s a dx, moved_to_other y x a dy) (moved_to_other z (emptied n x y) a dz)

    balance : (cond (eqb x s) 0 (hit a x) + cond (leb n y) 0 (hit a y) + cond known 0 (hit a z)) * goes f a b ≡ times a l * goes f a b
    balance =
        hit_cases a s
        (λ e. let i : times a l ≡ 0 = let w : hit a s ≡ 1 = rw (← e) (hit_same a) in omega (arith, rows a u) in
        rw (
          left_out (eqb x s) x (λ t j. eqb-false x s t (sym j ∙ e)),
          left_out (leb n y) y (λ t j. ys (leb-false n y t) (sym j ∙ e)),
          left_out known z (λ t j. (unknown t).0 (sym j ∙ e)),
          i,
        ) (omega arith))
        (λ os. let i : times a l ≡ 1 = omega (arith, rows a u) in
        let ds : a ≢ s = hit_zero a s os in
        hit_cases a x
        (λ e. rw (
          told (eqb x s) x (ne_eqb x s (λ j. ds (e ∙ j))) e,
          left_out (leb n y) y (λ t j. yx (leb-false n y t) (sym j ∙ e)),
          left_out known z (λ t j. (unknown t).1 (sym j ∙ e)),
          i,
        ) (omega arith))
        (λ ox. let dx : a ≢ x = hit_zero a x ox in
        hit_cases a y
        (λ e. rw (
          left_out (eqb x s) x (λ t. dx),
          told (leb n y) y (lt-leb n y (omega arith)) e,
          left_out known z (λ t j. (unknown t).2 (sym j ∙ e)),
          i,
        ) (omega arith))
        (λ oy. let dy : a ≢ y = hit_zero a y oy in
        hit_cases a z
        (λ e. rw (
          left_out (eqb x s) x (λ t. dx),
          left_out (leb n y) y (λ t. dy),
          told known z (rw (ne_eqb z s (rw e at ds), ne_eqb z x (rw e at dx), ne_eqb z y (rw e at dy))) e,
          i,
        ) (omega arith))
        (λ oz. rw (goes_nowhere f a b (still dx dy (hit_zero a z oz))) (omega arith)))))

    total : same a b (cond (eqb x s) none (named x (f x))) + same a b (cond (leb n y) none (named y (f y))) + same a b (cond known none (named z (f z)))
        ≡ tally a b (changed l (map f l))
    total =
        let w : a < U = omega arith in
        omega (
          arith,
          same_candidate f a b w (eqb x s) x,
          same_candidate f a b w (leb n y) y,
          same_candidate f a b w known z,
          balance,
          tally_changed f a b l,
        )

  pub moved_names : Names n (moved n z s x y) (changed l (map (home n z s x y) l))
  unfolding moved
  moved_names =
      names n (cond (eqb x s) none (named x (f x))) (cond (leb n y) none (named y (f y))) (cond known none (named z (f z))) (changed l (map f l))
      total
      (λ i j e. let (t, v) = candidate_old (eqb x s) x (f x) i in
      let (w, k) = candidate_old (leb n y) y (f y) j in
      yx (leb-false n y w) (sym k ∙ sym e ∙ v))
      (λ i j e. let (t, v) = candidate_old (eqb x s) x (f x) i in
      let (w, k) = candidate_old known z (f z) j in
      (unknown w).1 (sym k ∙ sym e ∙ v))
      (λ i j e. let (t, v) = candidate_old (leb n y) y (f y) i in
      let (w, k) = candidate_old known z (f z) j in
      (unknown w).2 (sym k ∙ sym e ∙ v))
      (candidate_rest (eqb x s) x (f x) n (λ e. lx))
      (candidate_rest (leb n y) y (f y) n (λ e. leb-false n y e))
      (candidate_rest known z (f z) n (λ e. lz))
