-- The turns of a lookup that are worked out from an image are those of the store.
use mathlib.Core.Path.{◌≡◌, refl, sym, ap, ◌∙◌}
use mathlib.Core.Bool.{Bool, true, false, cond}
use mathlib.Core.List.{List}
use Prim.Native.Nat.{ℕ, ◌<◌}
use lib.Dec.{leb}
use borrow.Author.Tests.{leb-false}
use Rattle.words.specs.Ix.{on_link}
use Rattle.words.specs.Nodes.{kid, interval, hull}
use Rattle.words.specs.declared.interval.Interval.{Interval}
use Rattle.tree.specs.Tree.{Tree, Shape}
use Rattle.iter.specs.Overlap.{should_go}
use Rattle.iter.specs.Exact.{toward, should_go_exact}
use Rattle.iter.specs.Queries.{rules}
use Rattle.iter.specs.declared.rules.Query.{Query}
use Rattle.iter.specs.declared.rules.Query.TheVariants.{Overlap, Ruled, Exact}
use Rattle.iter_laws.specs.Entered.{overlap_rule, exact_rule, goes}
use Rattle.iter_laws.proofs.Walks.{follows}
use Rattle.image_rule.specs.Stored.{child_in_lem}
use Rattle.slotshell_view.specs.View.{admitted, hull_in_lem, goes_in_lem}
use Rattle.slotshell_view.proofs.Hulls.{Alike}

-- two functions of a link that agree on slots
by_slots : {A : Type 0} (n k : ℕ) (f g : ℕ → A) (z : A) → ((a : ℕ) → a < n → f a ≡ g a) → on_link n k f z ≡ on_link n k g z
unfolding on_link
by_slots n k f g z e = go (leb n k) refl
  where
    go : (t : Bool) → leb n k ≡ t → cond t z (f k) ≡ cond t z (g k)
    go true i = refl
    go false i = e k (leb-false n k i)

-- the rule of entry of a query
abbrev pub entry_rule : List ℕ → Query → Bool → ℕ → ℕ → Bool
entry_rule W (Overlap q) = overlap_rule W q
entry_rule W (Ruled k q) = overlap_rule W q
entry_rule W (Exact x) = exact_rule W x

admitted_is : (W : List ℕ) (q : Query) (b : Bool) (s a : ℕ) → admitted q b (interval W s) (hull W a) ≡ entry_rule W q b s a
unfolding toward
admitted_is W (Overlap q) true s a = refl
admitted_is W (Overlap q) false s a = refl
admitted_is W (Ruled k q) true s a = refl
admitted_is W (Ruled k q) false s a = refl
admitted_is W (Exact x) true s a = refl
admitted_is W (Exact x) false s a = refl

rules_are : (W : List ℕ) (n : ℕ) (q : Query) (b : Bool) (s : ℕ) → (rules W n q).go b s ≡ on_link n (kid W b s) (entry_rule W q b s) false
unfolding rules should_go should_go_exact
rules_are W n (Overlap q) true s = refl
rules_are W n (Overlap q) false s = refl
rules_are W n (Ruled k q) true s = refl
rules_are W n (Ruled k q) false s = refl
rules_are W n (Exact x) b s = refl

module _ (I W : List ℕ) (n : ℕ) (alike : Alike I W n) (hulls : (s : ℕ) → s < n → hull_in_lem I n s ≡ hull W s) (q : Query) where
  pub turns : (b : Bool) (s : ℕ) → s < n → goes_in_lem I n q b s ≡ (rules W n q).go b s
  turns b s live =
      ap (λ (x : Interval). on_link n (child_in_lem I n b s) (λ a. admitted q b x (hull_in_lem I n a)) false) (alike.own s live)
      ∙ ap (λ (k : ℕ). on_link n k (λ a. admitted q b (interval W s) (hull_in_lem I n a)) false) (alike.child b s live)
      ∙ by_slots n (kid W b s) _ _ false (λ a i. ap (λ (h : Interval). admitted q b (interval W s) h) (hulls a i) ∙ admitted_is W q b s a)
      ∙ sym (rules_are W n q b s)

  -- on a tree
  pub turns_are : (b : Bool) (s : ℕ) (t : Tree) → s < n → Shape W n s (kid W b s) t → goes_in_lem I n q b s ≡ goes (entry_rule W q) b s t
  turns_are b s t live g = turns b s live ∙ follows W n (rules W n q) (entry_rule W q) (rules_are W n q) alike.few b s t g
