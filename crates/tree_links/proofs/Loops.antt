-- The loop of a repair's rounds, in the form that `search` takes.
use mathlib.Core.Path.{◌≡◌, refl, sym, ap, ◌∙◌}
use mathlib.Core.Bool.{Bool, true}
use mathlib.Core.List.{List, []}
use Prim.Native.Nat.{ℕ, ◌+◌, ◌*◌, ◌-◌, ◌<◌, ◌≤◌}
use native.Mathlib.Nat.{add_assoc}
use native.Mathlib.Omega.{arith}
use lib.Dec.{eqb}
use Rattle.words.specs.Ix.{on_link, link_of}
use Rattle.tree_edit.specs.Rounds.{Next, again, go_on, ending, loop}
use Rattle.tree_edit.specs.Store.{store}
use Rattle.tree_edit.specs.Reach.{Work, changes, onward, loop_hulls}
use Rattle.tree_edit.proofs.Reached.{changes_append}
use Rattle.tree_links.specs.Answers.{next, reach}
use Rattle.std.specs.declared.ops.ControlFlow.{ControlFlow}
use Rattle.std.specs.declared.ops.ControlFlow.TheVariants.{Continue, Break}
use Rattle.tree_links.specs.declared.Onward.{Onward}
use Rattle.tree_links.specs.declared.Repaired.{Repaired}
use Rattle.words.specs.Nodes.{kid, par}
use Rattle.std.specs.declared.option.Option.{Option}
use Rattle.std.specs.declared.option.Option.TheVariants.{Some}
use Rattle.tree_links.proofs.LinkLaws.{read_linked, hulls_linked, left_over}

-- the loop after i rounds of at most m
loop_begins : (m : ℕ) → m - 0 ≡ m
loop_begins m = omega arith

module _ (round : ℕ → List ℕ → List ℕ → ℕ → ℕ → Next) where
  pub loop_all : (n m : ℕ) (W C : List ℕ) (r ix : ℕ) → loop (round n) m W C r ix ≡ loop (round n) (m - 0) W C r ix
  loop_all n m W C r ix = rw (loop_begins m) refl

  module _ (n m i : ℕ) (N : Next) (W C : List ℕ) (r ix : ℕ) (e : N ≡ loop (round n) (m - i) W C r ix) where
    -- one round was made
    module _ (X D : List ℕ) (t : ControlFlow Repaired Onward) (p : next t X D ≡ round n W C r ix) (h : i < m) where
      made : (u : ControlFlow Repaired Onward) → t ≡ u → N ≡ go_on (next u X D) (λ A B a j. loop (round n) (m - (i + 1)) A B a j)
      unfolding loop
      made u z =
          (rw (left_over m i h) at e)
          ∙ ap (λ (s : Next). go_on s (λ A B a j. loop (round n) (m - (i + 1)) A B a j)) (sym p ∙ ap (λ (s : ControlFlow Repaired Onward). next s X D) z)

      pub loop_on : (s : Onward) → t ≡ Continue s → N ≡ loop (round n) (m - (i + 1)) X D s.root s.at
      loop_on s z = made (Continue s) z

      pub loop_done : (d : Repaired) → t ≡ Break d → store X D d.root ≡ ending N
      loop_done d z = sym (ap ending (made (Break d) z))

    pub loop_none : m ≤ i → store W C r ≡ ending N
    unfolding loop
    loop_none h = let z : m - i ≡ 0 = omega arith in sym (ap ending (rw z at e))

-- the loop stands at a slot
module _ (round : ℕ → List ℕ → List ℕ → ℕ → ℕ → Next)
    (stays : (n : ℕ) (W C : List ℕ) (r ix : ℕ) (X D : List ℕ) (q i : ℕ) → ix < n → round n W C r ix ≡ again X D q i → i < n) where
  pub loop_stays : (n : ℕ) (W C : List ℕ) (r ix : ℕ) (X D : List ℕ) (t : ControlFlow Repaired Onward) (s : Onward)
      → t ≡ Continue s → next t X D ≡ round n W C r ix → ix < n → s.at < n
  loop_stays n W C r ix X D t s z p h = stays n W C r ix X D s.root s.at h (sym p ∙ ap (λ (u : ControlFlow Repaired Onward). next u X D) z)

-- the hulls that the loop works out: `hulls` those of a round
module _ (round : ℕ → List ℕ → List ℕ → ℕ → ℕ → Next) (hulls : ℕ → List ℕ → List ℕ → ℕ → List Work) where
  pub count_all : (n m : ℕ) (W C : List ℕ) (r ix : ℕ)
      → changes n (loop_hulls (round n) (hulls n) m W C r ix) ≡ 0 + changes n (loop_hulls (round n) (hulls n) (m - 0) W C r ix)
  count_all n m W C r ix = rw (loop_begins m) (omega arith)

  module _ (n m i : ℕ) (W C : List ℕ) (r ix R k : ℕ) (e : R ≡ k + changes n (loop_hulls (round n) (hulls n) (m - i) W C r ix)) where
    module _ (X D : List ℕ) (t : ControlFlow Repaired Onward) (p : next t X D ≡ round n W C r ix) (f : reach t ≡ changes n (hulls n W C ix)) (h : i < m) where
      told : (u : ControlFlow Repaired Onward) → t ≡ u
          → R ≡ k + (reach u + changes n (onward (next u X D) (λ Y E q j. loop_hulls (round n) (hulls n) (m - (i + 1)) Y E q j)))
      unfolding loop_hulls
      told u z =
          (rw (left_over m i h) at e)
          ∙ ap (λ (x : ℕ). k + x) (changes_append n (hulls n W C ix) (onward (round n W C r ix) (λ Y E q j. loop_hulls (round n) (hulls n) (m - (i + 1)) Y E q j)))
          ∙ rw (← f, ← p, z)

      pub count_on : (s : Onward) → t ≡ Continue s → R ≡ k + s.reach + changes n (loop_hulls (round n) (hulls n) (m - (i + 1)) X D s.root s.at)
      count_on s z = told (Continue s) z ∙ sym (add_assoc k s.reach _)

      pub count_done : (d : Repaired) → t ≡ Break d → k + d.reach ≡ R
      count_done d z = let y : R ≡ k + (d.reach + 0) = told (Break d) z in omega arith

    pub count_none : m ≤ i → k ≡ R
    unfolding loop_hulls
    count_none h = let z : m - i ≡ 0 = omega arith in let y : R ≡ k + 0 = (rw z at e) in omega arith

-- four hulls a round at the most: the sum fits, and stays at four a round
module _ (hulls : ℕ → List ℕ → List ℕ → ℕ → List Work) (few : (n : ℕ) (W C : List ℕ) (ix : ℕ) → changes n (hulls n W C ix) ≤ 4) where
  module _ (n : ℕ) (W C : List ℕ) (ix : ℕ) (t : ControlFlow Repaired Onward) (k i : ℕ) (e : reach t ≡ changes n (hulls n W C ix)) (m : k ≤ 4 * i) where
    pub sum_fits : (s : Onward) (f : ℕ) → t ≡ Continue s → i < f → f ≤ 36 → k + s.reach < 18446744073709551616
    sum_fits s f z h j = let y : s.reach ≤ 4 = rw (← (ap reach z), e) (few n W C ix) in omega arith

    pub last_fits : (d : Repaired) (f : ℕ) → t ≡ Break d → i < f → f ≤ 36 → k + d.reach < 18446744073709551616
    last_fits d f z h j = let y : d.reach ≤ 4 = rw (← (ap reach z), e) (few n W C ix) in omega arith

    pub sum_room : (s : Onward) → t ≡ Continue s → k + s.reach ≤ 4 * (i + 1)
    sum_room s z = let y : s.reach ≤ 4 = rw (← (ap reach z), e) (few n W C ix) in omega arith

-- a slot's parent p, with the side that the slot is on
pub at_side : (F : ℕ → Bool → Next) (z : Next) (n : ℕ) (W : List ℕ) (ix : ℕ) (N : Next) (w p x : ℕ) (l : Option ℕ) → w ≡ par W ix → l ≡ link_of n w
    → l ≡ Some p → x ≡ kid W true p → N ≡ F p (eqb x ix) → N ≡ on_link n (par W ix) (λ P. F P (eqb (kid W true P) ix)) z
at_side F z n W ix N w p x l e q k f h =
    read_linked N n (par W ix) w l (λ (P : ℕ). F P (eqb (kid W true P) ix)) z e q p k (h ∙ ap (λ (y : ℕ). F p (eqb y ix)) f)

pub side_changes : (F : ℕ → Bool → List Work) (n : ℕ) (W : List ℕ) (ix x w p t : ℕ) (l : Option ℕ) → w ≡ par W ix → l ≡ link_of n w → l ≡ Some p → t ≡ kid W true p
    → x ≡ changes n (F p (eqb t ix)) → x ≡ changes n (on_link n (par W ix) (λ (P : ℕ). F P (eqb (kid W true P) ix)) [])
side_changes F n W ix x w p t l e q k f h =
    hulls_linked x n (par W ix) w l (λ (P : ℕ). F P (eqb (kid W true P) ix)) e q p k (h ∙ ap (λ (y : ℕ). changes n (F p (eqb y ix))) f)
