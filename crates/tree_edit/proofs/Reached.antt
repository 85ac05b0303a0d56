-- Between the hulls that are worked out one after the other no hull changes, and how many of them
-- change. On any words.
use mathlib.Core.Path.{◌≡◌, refl, ◌∙◌}
use mathlib.Core.Bool.{Bool, true, false, cond}
use mathlib.Core.List.{List, [], ◌∷◌, ◌++◌}
use Prim.Native.Nat.{ℕ, zero, suc, ◌+◌, ◌≤◌}
use native.Mathlib.Omega.{arith}
use lib.ListN.{length}
use lib.Dec.{leb}
use Rattle.words.specs.Ix.{on_link}
use Rattle.words.specs.Nodes.{par, hull, altered, fix}
use Rattle.words.specs.declared.node.Field.TheVariants.{HullStart, HullEnd}
use Rattle.tree_edit.specs.Links.{fix_up}
use Rattle.tree_edit.specs.Rounds.{Next, done, ending}
use Rattle.tree_edit.specs.Reach.{Work, work, differs, changes, up_hulls, Stays, Follows}
use Rattle.tree_edit.proofs.Carried.{Kept}
use Rattle.tree_edit.proofs.Links.{by_link}

pub kept_hull : (W X : List ℕ) (a : ℕ) → Kept W X a → hull X a ≡ hull W a
kept_hull W X a f = λ t. record { start = f HullStart refl t; end = f HullEnd refl t }

pub kept_stays : (W X : List ℕ) → ((a : ℕ) → Kept W X a) → Stays W X
kept_stays W X f a = kept_hull W X a (f a)

module _ (n : ℕ) where
  -- one after the other
  pub from : (W X : List ℕ) (l : List Work) (Z : List ℕ) → Stays W X → Follows n X l Z → Follows n W l Z
  from W X [] Z f g = λ a. g a ∙ f a
  from W X (w ∷ l) Z f g = (λ a. g.0 a ∙ f a, g.1)

  pub then : (W X : List ℕ) (l m : List Work) (Z : List ℕ) → Follows n W l X → Follows n X m Z → Follows n W (l ++ m) Z
  then W X [] m Z f g = from W X m Z f g
  then W X (w ∷ l) m Z f g = (f.0, then (fix n w.words w.slot) X l m Z f.1 g)

  -- a link word by cases, in the list and in the words
  pub linked : (W : List ℕ) (k : ℕ) (l : ℕ → List Work) (X : ℕ → List ℕ) → Follows n W (l k) (X k) → Follows n W (on_link n k l []) (on_link n k X W)
  unfolding on_link
  linked W k l X f = go (leb n k)
    where
      go : (t : Bool) → Follows n W (cond t [] (l k)) (cond t W (X k))
      go true = λ a. refl
      go false = f

  -- the walk upward
  pub follows_up : (height : ℕ) (W : List ℕ) (k : ℕ) → Follows n W (up_hulls n height W k) (fix_up n height W k)
  unfolding up_hulls fix_up
  follows_up zero W k = λ a. refl
  follows_up (suc height) W k =
      linked W k (λ s. work W k ∷ up_hulls n height (fix n W k) (par W k)) (λ s. fix_up n height (fix n W k) (par W k))
      (λ a. refl, follows_up height (fix n W k) (par W k))

  pub linked_next : (W C : List ℕ) (r k : ℕ) (l : ℕ → List Work) (X : ℕ → Next) → Follows n W (l k) (ending (X k)).words
      → Follows n W (on_link n k l []) (ending (on_link n k X (done W C r))).words
  unfolding on_link
  linked_next W C r k l X f = go (leb n k)
    where
      go : (t : Bool) → Follows n W (cond t [] (l k)) (ending (cond t (done W C r) (X k))).words
      go true = λ a. refl
      go false = f

  -- how many change
  pub differs_le : (W : List ℕ) (s : ℕ) → differs n W s ≤ 1
  unfolding differs
  differs_le W s = go (altered n W s)
    where
      go : (t : Bool) → cond t 1 0 ≤ 1
      go true = omega arith
      go false = omega arith

  pub changes_append : (l m : List Work) → changes n (l ++ m) ≡ changes n l + changes n m
  changes_append [] m = omega arith
  changes_append (w ∷ l) m = omega (arith, changes_append l m)

  pub changes_le : (l : List Work) → changes n l ≤ length l
  changes_le [] = omega arith
  changes_le (w ∷ l) = omega (arith, differs_le w.words w.slot, changes_le l)

  pub up_most : (height : ℕ) (W : List ℕ) (k : ℕ) → length (up_hulls n height W k) ≤ height
  unfolding up_hulls
  up_most zero W k = omega arith
  up_most (suc height) W k =
      by_link n k (λ l. length l ≤ suc height) (λ s. work W k ∷ up_hulls n height (fix n W k) (par W k)) []
      (λ h. omega (arith, up_most height (fix n W k) (par W k))) (λ h. omega arith)
