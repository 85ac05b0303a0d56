-- The steps around the repair, by what the child's link leads to.
use mathlib.Core.Path.{◌≡◌, refl}
use mathlib.Core.Bool.{true, false}
use mathlib.Core.List.{List}
use Prim.Native.Nat.{ℕ, ◌<◌, ◌≤◌}
use Rattle.words.specs.Nodes.{par, swap}
use Rattle.bitvec.specs.Colours.{red, paint}
use Rattle.tree_rm_rule.specs.Repair.{repair}
use Rattle.tree_rm_rule.specs.Pairs.{emptied}
use Rattle.tree_edit.specs.Store.{store}
use Rattle.tree_edit.specs.Rounds.{ending}
use Rattle.tree_rm_rule.specs.Remove.{restructure, handed, above, restructure_with}
use Rattle.tree_edit.proofs.Links.{by_link, on_slot, on_none}

-- the slot that is emptied
module _ (n x y : ℕ) where
  pub emptied_slot_lem : y < n → emptied n x y ≡ y
  unfolding emptied
  emptied_slot_lem h = on_slot n y h (λ s. s) x

  pub emptied_none : n ≤ y → emptied n x y ≡ x
  unfolding emptied
  emptied_none h = on_none n y h (λ s. s) x

  pub emptied_live : x < n → emptied n x y < n
  unfolding emptied
  emptied_live h = by_link n y (λ k. k < n) (λ s. s) x (λ u. u) (λ u. h)

-- what is above it, and the child's exchange
module _ (n : ℕ) (W : List ℕ) (x y : ℕ) where
  pub above_slot : y < n → above n W x y ≡ x
  unfolding above
  above_slot h = on_slot n y h (λ s. x) (par W x)

  pub above_none : n ≤ y → above n W x y ≡ par W x
  unfolding above
  above_none h = on_none n y h (λ s. x) (par W x)

  pub handed_slot : y < n → handed n W x y ≡ swap W x y
  unfolding handed
  handed_slot h = on_slot n y h (λ s. swap W x s) W

  pub handed_none : n ≤ y → handed n W x y ≡ W
  unfolding handed
  handed_none h = on_none n y h (λ s. swap W x s) W

-- `restructure_rm`: a red slot, a red child, or the repair
module _ (n : ℕ) (W C : List ℕ) (r x y : ℕ) where
  pub restructure_red : red C x ≡ true → restructure n W C r x y ≡ store W C r
  unfolding restructure_with
  restructure_red e = rw e refl

  pub restructure_child : red C x ≡ false → y < n → red C y ≡ true → restructure n W C r x y ≡ store W (paint C y true) r
  unfolding restructure_with
  restructure_child e h f = rw (e, on_slot n y h (λ s. red C s) false, f) refl

  pub restructure_repair : red C x ≡ false → n ≤ y → restructure n W C r x y ≡ ending (repair n 36 W C r x)
  unfolding restructure_with
  restructure_repair e h = rw (e, on_none n y h (λ s. red C s) false) refl
