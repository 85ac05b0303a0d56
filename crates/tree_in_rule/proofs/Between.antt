-- Entries and order: a new one between those that are not greater and the greater ones.
use mathlib.Core.Path.{◌≡◌, refl, ap, ◌∙◌}
use mathlib.Core.Bool.{Bool, true, false, not}
use mathlib.Core.List.{List, [], ◌∷◌, ◌++◌, append-nil, map}
use Prim.Native.Nat.{ℕ, ◌<◌}
use native.Mathlib.Omega.{arith}
use Rattle.words.specs.Intervals.{le}
use Rattle.words.specs.Lists.{filter}
use Rattle.words.specs.Nodes.{interval}
use Rattle.words.specs.declared.interval.Interval.{Interval}
use Rattle.words.proofs.Lists.{filter_append}
use Rattle.tree.specs.Order.{NotAfter, Next, Rising}
use Rattle.tree.specs.Tree.{times}
use Rattle.tree.proofs.Slots.{hit_same}
use Rattle.tree.proofs.Orders.{le_sound, le_not, Before}
use Rattle.tree_in_rule.specs.InsertionGuarantee.{not_greater, greater}

module _ (p : ℕ → Bool) where
  filter_all : (l : List ℕ) → ((a : ℕ) → 0 < times a l → p a ≡ true) → filter p l ≡ l
  filter_all [] h = refl
  filter_all (a ∷ l) h = rw (h a (omega (arith, hit_same a)), filter_all l (λ b o. h b (omega arith)))

  filter_none : (l : List ℕ) → ((a : ℕ) → 0 < times a l → p a ≡ false) → filter p l ≡ []
  filter_none [] h = refl
  filter_none (a ∷ l) h = rw (h a (omega (arith, hit_same a)), filter_none l (λ b o. h b (omega arith)))

-- a row that is parted already
module _ (W : List ℕ) (x : Interval) (A B : List ℕ) (f : (a : ℕ) → 0 < times a A → le (interval W a) x ≡ true)
    (g : (a : ℕ) → 0 < times a B → le (interval W a) x ≡ false) where
  pub first_part : not_greater W x (A ++ B) ≡ A
  first_part =
      filter_append (λ a. le (interval W a) x) A B
      ∙ rw (filter_all (λ a. le (interval W a) x) A f, filter_none (λ a. le (interval W a) x) B g) (append-nil A)

  pub second_part : greater W x (A ++ B) ≡ B
  second_part =
      filter_append (λ a. not (le (interval W a) x)) A B
      ∙ rw (
        filter_none (λ a. not (le (interval W a) x)) A (λ a o. ap not (f a o)),
        filter_all (λ a. not (le (interval W a) x)) B (λ a o. ap not (g a o)),
      ) refl

-- each of a list is not after x
abbrev pub Upto : List Interval → Interval → Type 0
Upto [] x = Unit {0}
Upto (a ∷ l) x = NotAfter a x × Upto l x

before_first : (x : Interval) (B : List Interval) → Before x B → Next x B
before_first x [] h = tt
before_first x (b ∷ B) h = h.0

-- one more in a rising row
pub rising_between : (A : List Interval) (x : Interval) (B : List Interval) → Rising (A ++ B) → Upto A x → Before x B → Rising (A ++ (x ∷ B))
rising_between [] x B h u v = (before_first x B v, h)
rising_between (a ∷ []) x B h u v = (u.0, (before_first x B v, h.1))
rising_between (a ∷ b ∷ A) x B h u v = (h.0, rising_between (b ∷ A) x B h.1 u.1 v)

module _ (W : List ℕ) (x : Interval) where
  pub upto_map : (l : List ℕ) → ((a : ℕ) → 0 < times a l → le (interval W a) x ≡ true) → Upto (map (interval W) l) x
  upto_map [] h = tt
  upto_map (a ∷ l) h = (le_sound (interval W a) x (h a (omega (arith, hit_same a))), upto_map l (λ b o. h b (omega arith)))

  pub before_map : (l : List ℕ) → ((a : ℕ) → 0 < times a l → le (interval W a) x ≡ false) → Before x (map (interval W) l)
  before_map [] h = tt
  before_map (a ∷ l) h = (le_not (interval W a) x (h a (omega (arith, hit_same a))), before_map l (λ b o. h b (omega arith)))
