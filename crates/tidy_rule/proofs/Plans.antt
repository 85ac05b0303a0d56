-- An accepted plan: it is one to one on the slots below the count.
use mathlib.Core.Path.{◌≡◌, refl, sym, ap, subst}
use mathlib.Core.Bool.{true}
use mathlib.Core.List.{List, [], ◌∷◌}
use Prim.Native.Nat.{ℕ, zero, suc, ◌+◌, ◌<◌, ◌≤◌}
use native.Mathlib.Omega.{arith}
use lib.Dec.{eqb}
use lib.ListN.{length, get_or}
use borrow.Author.Tests.{eqb-true, eq-eqb, lt-leb, le-leb}
use Rattle.words.specs.Ix.{U, on_link}
use Rattle.tree.specs.Tree.{hit, times}
use Rattle.tree.proofs.Cases.{compare}
use Rattle.tree.proofs.Slots.{hit_same, hit_cases, hit_zero}
use Rattle.iter.proofs.Bools.{and_left, and_right}
use Rattle.tidy_rule.specs.Plan.{each_once, fits, renamed}

-- a place of a list names its content
pub named_at : (P : List ℕ) (s : ℕ) → s < length P → 0 < times (get_or P s 0) P
named_at [] s h = absurd (omega arith)
named_at (a ∷ P) zero h = omega (arith, hit_same a)
named_at (a ∷ P) (suc s) h = omega (arith, named_at P s (omega arith))

-- what is named stands at a place
pub place_of : {X : Type 0} (P : List ℕ) (v : ℕ) → 0 < times v P → ((s : ℕ) → s < length P → get_or P s 0 ≡ v → X) → X
place_of [] v o k = absurd (omega arith)
place_of (a ∷ P) v o k =
    hit_cases v a
    (λ e. k 0 (omega arith) (sym e))
    (λ z. place_of P v (omega arith) (λ s h e. k (suc s) (omega arith) e))

-- two places that name one slot name it twice
pub one_place : (P : List ℕ) (s u : ℕ) → s < length P → u < length P → get_or P s 0 ≡ get_or P u 0 → times (get_or P s 0) P ≤ 1 → s ≡ u
one_place [] s u h i e m = absurd (omega arith)
one_place (a ∷ P) zero zero h i e m = refl
one_place (a ∷ P) zero (suc u) h i e m =
    let q : 0 < times a P = rw e (named_at P u (omega arith)) in
    absurd (omega (arith, hit_same a))
one_place (a ∷ P) (suc s) zero h i e m =
    let q : 0 < times a P = rw (← e) (named_at P s (omega arith)) in
    let m' : hit a a + times a P ≤ 1 = subst (λ (x : ℕ). times x (a ∷ P) ≤ 1) e m in
    absurd (omega (arith, hit_same a))
one_place (a ∷ P) (suc s) (suc u) h i e m = ap suc (one_place P s u (omega arith) (omega arith) e (omega arith))

once_at : (m : ℕ) (P : List ℕ) → each_once m P ≡ true → (v : ℕ) → v < m → times v P ≡ 1
unfolding each_once
once_at zero P e v h = absurd (omega arith)
once_at (suc m) P e v h =
    hit_cases v m
    (λ q. rw q (eqb-true (times m P) 1 (and_left (eqb (times m P) 1) (each_once m P) e)))
    (λ z. once_at m P (and_right (eqb (times m P) 1) (each_once m P) e) v (omega (arith, hit_zero v m z)))

-- what an accepted plan has
pub record Fits (n : ℕ) (P : List ℕ) : Type 0 where
  pub long : length P ≡ n
  pub once : (v : ℕ) → v < n → times v P ≡ 1

pub fits_is : (n : ℕ) (P : List ℕ) → fits n P ≡ true → Fits n P
unfolding fits
fits_is n P e =
    record { long = eqb-true (length P) n (and_left (eqb (length P) n) (each_once n P) e); once = once_at n P (and_right (eqb (length P) n) (each_once n P) e) }

at_once : (m : ℕ) (P : List ℕ) → ((v : ℕ) → v < m → times v P ≡ 1) → each_once m P ≡ true
unfolding each_once
at_once zero P f = refl
at_once (suc m) P f = rw (eq-eqb (times m P) 1 (f m (omega arith)), at_once m P (λ v h. f v (omega arith))) refl

pub is_fits : (n : ℕ) (P : List ℕ) → Fits n P → fits n P ≡ true
unfolding fits
is_fits n P w = rw (eq-eqb (length P) n w.long, at_once n P w.once) refl

-- how many places name a slot below m: where that is all of them, nothing else is named
counted : ℕ → List ℕ → ℕ
counted zero P = 0
counted (suc m) P = counted m P + times m P

counted_nil : (m : ℕ) → counted m [] ≡ 0
unfolding counted
counted_nil zero = refl
counted_nil (suc m) = omega (arith, counted_nil m)

below : ℕ → ℕ → ℕ
below zero a = 0
below (suc m) a = below m a + hit m a

counted_cons : (m a : ℕ) (P : List ℕ) → counted m (a ∷ P) ≡ below m a + counted m P
unfolding counted below
counted_cons zero a P = refl
counted_cons (suc m) a P = omega (arith, counted_cons m a P)

below_miss : (m a : ℕ) → m ≤ a → below m a ≡ 0
unfolding below
below_miss zero a h = refl
below_miss (suc m) a h =
    hit_cases m a (λ e. absurd (omega arith)) (λ z. omega (arith, below_miss m a (omega arith)))

below_le : (m a : ℕ) → below m a ≤ 1
unfolding below
below_le zero a = omega arith
below_le (suc m) a =
    hit_cases m a (λ e. rw e (omega (arith, below_miss a a (omega arith), hit_same a))) (λ z. omega (arith, below_le m a))

counted_le : (m : ℕ) (P : List ℕ) → counted m P ≤ length P
counted_le m [] = omega (arith, counted_nil m)
counted_le m (a ∷ P) = omega (arith, counted_cons m a P, below_le m a, counted_le m P)

-- one that is not below m: not all are counted
counted_out : (m : ℕ) (P : List ℕ) (s : ℕ) → s < length P → m ≤ get_or P s 0 → counted m P < length P
counted_out m [] s h i = absurd (omega arith)
counted_out m (a ∷ P) zero h i = omega (arith, counted_cons m a P, below_miss m a i, counted_le m P)
counted_out m (a ∷ P) (suc s) h i = omega (arith, counted_cons m a P, below_le m a, counted_out m P s (omega arith) i)

counted_all : (m : ℕ) (P : List ℕ) → ((v : ℕ) → v < m → times v P ≡ 1) → counted m P ≡ m
unfolding counted
counted_all zero P f = refl
counted_all (suc m) P f = omega (arith, counted_all m P (λ v h. f v (omega arith)), f m (omega arith))

-- where each is named at least once in so many places, each is named once
counted_some : (m : ℕ) (P : List ℕ) → ((v : ℕ) → v < m → 0 < times v P) → m ≤ counted m P
unfolding counted
counted_some zero P f = omega arith
counted_some (suc m) P f = omega (arith, counted_some m P (λ v h. f v (omega arith)), f m (omega arith))

counted_more : (m : ℕ) (P : List ℕ) → ((v : ℕ) → v < m → 0 < times v P) → (v : ℕ) → v < m → m + times v P ≤ counted m P + 1
unfolding counted
counted_more zero P f v h = absurd (omega arith)
counted_more (suc m) P f v h =
    hit_cases v m
    (λ e. rw e (omega (arith, counted_some m P (λ u i. f u (omega arith)))))
    (λ z. omega (arith, counted_more m P (λ u i. f u (omega arith)) v (omega (arith, hit_zero v m z)), f m (omega arith)))

pub fits_by : (n : ℕ) (P : List ℕ) → length P ≡ n → ((v : ℕ) → v < n → 0 < times v P) → Fits n P
fits_by n P e f =
    record { long = e; once = λ v h. omega (arith, f v h, counted_more n P f v h, counted_le n P) }

-- where all are below n, none twice, and there are n of them, each is named once: what the test of
-- a plan finds
below_one : (m a : ℕ) → a < m → below m a ≡ 1
unfolding below
below_one zero a h = absurd (omega arith)
below_one (suc m) a h =
    hit_cases m a
    (λ e. rw e (omega (arith, below_miss a a (omega arith), hit_same a)))
    (λ z. omega (arith, below_one m a (omega (arith, hit_zero m a z))))

counted_low : (m : ℕ) (P : List ℕ) → ((s : ℕ) → s < length P → get_or P s 0 < m) → counted m P ≡ length P
counted_low m [] f = counted_nil m
counted_low m (a ∷ P) f =
    omega (arith, counted_cons m a P, below_one m a (f 0 (omega arith)), counted_low m P (λ s h. f (suc s) (omega arith)))

counted_most : (m : ℕ) (P : List ℕ) → ((v : ℕ) → v < m → times v P ≤ 1) → counted m P ≤ m
unfolding counted
counted_most zero P f = omega arith
counted_most (suc m) P f = omega (arith, counted_most m P (λ v h. f v (omega arith)), f m (omega arith))

counted_gap : (m : ℕ) (P : List ℕ) → ((v : ℕ) → v < m → times v P ≤ 1) → (v : ℕ) → v < m → counted m P + 1 ≤ m + times v P
unfolding counted
counted_gap zero P f v h = absurd (omega arith)
counted_gap (suc m) P f v h =
    hit_cases v m
    (λ e. rw e (omega (arith, counted_most m P (λ u i. f u (omega arith)))))
    (λ z. omega (arith, counted_gap m P (λ u i. f u (omega arith)) v (omega (arith, hit_zero v m z)), f m (omega arith)))

pub fits_one : (n : ℕ) (P : List ℕ) → length P ≡ n → ((s : ℕ) → s < n → get_or P s 0 < n) → ((v : ℕ) → v < n → times v P ≤ 1) → Fits n P
fits_one n P e f g =
    record {
      long = e;
      once = λ v h. let c : counted n P ≡ length P = counted_low n P (λ s i. f s (omega arith)) in omega (arith, g v h, counted_gap n P g v h);
    }

module _ (n : ℕ) (P : List ℕ) (w : Fits n P) where
  pub plan_low : (s : ℕ) → s < n → get_or P s 0 < n
  plan_low s h =
      compare_at (λ q. let z : counted n P < length P = counted_out n P s (omega (arith, w.long)) q in
      absurd (omega (arith, counted_all n P w.once, w.long)))
    where
      compare_at : (n ≤ get_or P s 0 → get_or P s 0 < n) → get_or P s 0 < n
      compare_at f = compare n (get_or P s 0) f (λ q. q)

  pub plan_one : (s u : ℕ) → s < n → u < n → get_or P s 0 ≡ get_or P u 0 → s ≡ u
  plan_one s u h i e =
      one_place P s u (omega (arith, w.long)) (omega (arith, w.long)) e (omega (arith, w.once (get_or P s 0) (plan_low s h)))

  pub plan_all : {X : Type 0} (v : ℕ) → v < n → ((s : ℕ) → s < n → get_or P s 0 ≡ v → X) → X
  plan_all v h k = place_of P v (omega (arith, w.once v h)) (λ s i e. k s (omega (arith, w.long)) e)

  pub renamed_live : (k : ℕ) → k < n → renamed n P k ≡ get_or P k 0
  unfolding renamed on_link
  renamed_live k h = rw (lt-leb n k h) refl

  pub renamed_none : (k : ℕ) → n ≤ k → renamed n P k ≡ U
  unfolding renamed on_link
  renamed_none k h = rw (le-leb n k h) refl

  -- a renamed link is a slot or U
  pub renamed_cases : {X : Type 0} (k : ℕ) → (renamed n P k < n → X) → (renamed n P k ≡ U → X) → X
  renamed_cases k x y = compare n k (λ q. y (renamed_none k q)) (λ q. x (rw (renamed_live k q) (plan_low k q)))
