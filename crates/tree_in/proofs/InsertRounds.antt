-- The rounds of the repair, in the form that `search` takes.
use mathlib.Core.Path.{◌≡◌, refl, sym, ap, ◌∙◌}
use mathlib.Core.Bool.{Bool, true, false, cond, not}
use mathlib.Core.List.{List, []}
use Prim.Native.Nat.{ℕ, ◌+◌, ◌<◌, ◌≤◌}
use native.Mathlib.Omega.{arith}
use lib.Dec.{eqb}
use borrow.Author.Tests.{eq-eqb, ne_eqb}
use Rattle.words.specs.Ix.{link_of}
use Rattle.words.specs.Nodes.{kid, par, fix, HasBit, HoldsBits}
use Rattle.std.specs.declared.option.Option.{Option}
use Rattle.std.specs.declared.option.Option.TheVariants.{Some, None}
use Rattle.bitvec.specs.Colours.{red, red_at, paint}
use Rattle.tree_edit.specs.Links.{root_after}
use Rattle.tree_edit.specs.Rotations.{rotate}
use Rattle.tree_edit.specs.Rounds.{Next, done, again}
use Rattle.tree_edit.specs.Reach.{Work, changes, both_hulls}
use Rattle.tree_edit.proofs.Reached.{changes_append, changes_le}
use Rattle.tree_links.proofs.LinkLaws.{read_linked, read_unlinked, hulls_linked, hulls_unlinked}
use Rattle.tree_links.proofs.Loops.{at_side, side_changes}
use Rattle.tree_edit.proofs.Colours.{red_child, red_fits}
use Rattle.tree_in_rule.specs.InsertRepair.{rotated, outer, inner, recoloured, insert_round_at, insert_round_below, insert_round}
use Rattle.tree_in_rule.specs.Reach.{rotated_hulls, outer_hulls, inner_hulls, insert_round_at_hulls, insert_round_below_hulls, insert_round_hulls}

-- the rotations
module _ (n : ℕ) (W : List ℕ) (b : Bool) (P S : ℕ) (W₁ : List ℕ) (e : W₁ ≡ rotate n W b P S) where
  pub rotated_is : (W₂ : List ℕ) → W₂ ≡ fix n (fix n W₁ P) S → W₂ ≡ rotated n W b P S
  unfolding rotated
  rotated_is W₂ f = rw (← e) f

  pub rotated_changes : (k : ℕ) → k ≡ changes n (both_hulls n W₁ P S) → k ≡ changes n (rotated_hulls n W b P S)
  unfolding rotated_hulls
  rotated_changes k f = rw (← e) f

pub outer_is : (n : ℕ) (W C : List ℕ) (r : ℕ) (b : Bool) (P G : ℕ) (X C₁ C₂ : List ℕ) (q : ℕ) → q ≡ root_after n W r G P → X ≡ rotated n W (not b) G P
    → C₁ ≡ paint C P false → C₂ ≡ paint C₁ G true → done X C₂ q ≡ outer n W C r b P G
unfolding outer
outer_is n W C r b P G X C₁ C₂ q e f g h = rw (← e, ← f, ← g, ← h)

pub inner_is : (n : ℕ) (W C : List ℕ) (r x : ℕ) (b : Bool) (P G : ℕ) (X : List ℕ) (N : Next) → X ≡ rotated n W b P x → N ≡ outer n X C r b x G
    → N ≡ inner n W C r x b P G
unfolding inner
inner_is n W C r x b P G X N e f = rw (← e) f

-- how many hulls change in them
pub rotated_most : (n : ℕ) (W : List ℕ) (b : Bool) (P S k : ℕ) → k ≡ changes n (rotated_hulls n W b P S) → k ≤ 2
unfolding rotated_hulls
rotated_most n W b P S k e = omega (arith, changes_le n (rotated_hulls n W b P S))

pub rotated_fits : (n : ℕ) (W : List ℕ) (b : Bool) (P S j k : ℕ) → k ≡ changes n (rotated_hulls n W b P S) → j ≤ 2 → j + k < 18446744073709551616
rotated_fits n W b P S j k e h = omega (arith, rotated_most n W b P S k e)

pub outer_changes : (n : ℕ) (W : List ℕ) (b : Bool) (P G j k : ℕ) → k ≡ changes n (rotated_hulls n W (not b) G P) → j + k ≡ j + changes n (outer_hulls n W b P G)
unfolding outer_hulls
outer_changes n W b P G j k e = rw e

pub inner_changes : (n : ℕ) (W X : List ℕ) (x : ℕ) (b : Bool) (P G j k : ℕ) → X ≡ rotated n W b P x → j ≡ changes n (rotated_hulls n W b P x)
    → k ≡ j + changes n (outer_hulls n X b x G) → k ≡ changes n (inner_hulls n W x b P G)
unfolding inner_hulls
inner_changes n W X x b P G j k e f g = g ∙ rw (f, e, changes_append n (rotated_hulls n W b P x) (outer_hulls n (rotated n W b P x) b x G))

-- a test of a word that was read, and the hulls behind it
module _ (n v w x k : ℕ) (l m : List Work) (e : w ≡ v) where
  pub equal_changes : w ≡ x → k ≡ changes n l → k ≡ changes n (cond (eqb v x) l m)
  equal_changes q h = rw (← e, eq-eqb w x q) h

  pub unequal_changes : (w ≡ x → ⊥) → k ≡ 0 + changes n m → k ≡ changes n (cond (eqb v x) l m)
  unequal_changes q h = rw (← e, ne_eqb w x q) (h ∙ omega arith)

-- a test of a word that was read
module _ {A : Type 0} (v w x : ℕ) (r y z : A) (e : w ≡ v) where
  pub read_equal : w ≡ x → r ≡ y → r ≡ cond (eqb v x) y z
  read_equal q h = rw (← e, eq-eqb w x q) h

  pub read_unequal : (w ≡ x → ⊥) → r ≡ z → r ≡ cond (eqb v x) y z
  read_unequal q h = rw (← e, ne_eqb w x q) h

-- the uncle u, of which v says that it is black or not there
module _ (n : ℕ) (C : List ℕ) (u : ℕ) (v : Bool) (f : v ≡ not (red_at n C u)) where
  pub uncle_fits : HoldsBits C n → v ≡ false → HasBit C u
  uncle_fits h q = red_fits n C u v h f (ap not q)

  module _ (W : List ℕ) (r x P G : ℕ) (b : Bool) (e : u ≡ kid W (not b) G) where
    pub uncle_black : (N : Next) → v ≡ true → N ≡ cond (eqb (kid W (not b) P) x) (inner n W C r x b P G) (outer n W C r b P G)
        → N ≡ insert_round_at n W C r x P G b
    unfolding insert_round_at
    uncle_black N q h = rw (← e, red_child v (red_at n C u) false f (ap not q)) h

    pub black_changes : (k : ℕ) → v ≡ true → k ≡ changes n (cond (eqb (kid W (not b) P) x) (inner_hulls n W x b P G) (outer_hulls n W b P G))
        → k ≡ changes n (insert_round_at_hulls n W C x P G b)
    unfolding insert_round_at_hulls
    black_changes k q h = rw (← e, red_child v (red_at n C u) false f (ap not q)) h

    pub red_changes : v ≡ false → 0 ≡ changes n (insert_round_at_hulls n W C x P G b)
    unfolding insert_round_at_hulls
    red_changes q = rw (← e, red_child v (red_at n C u) true f (ap not q))

    pub uncle_red : (D : List ℕ) → v ≡ false → D ≡ paint (paint (paint C P false) u false) G true → again W D r G ≡ insert_round_at n W C r x P G b
    unfolding insert_round_at recoloured
    uncle_red D q h = rw (← e, red_child v (red_at n C u) true f (ap not q), ← h)

-- the grandparent g, and the parent p of the slot x
pub at_grandparent : (n : ℕ) (W C : List ℕ) (r x P : ℕ) (N : Next) (w g t : ℕ) (l : Option ℕ) → w ≡ par W P → l ≡ link_of n w → l ≡ Some g
    → t ≡ kid W true g → N ≡ insert_round_at n W C r x P g (eqb t P) → N ≡ insert_round_below n W C r x P
unfolding insert_round_below
at_grandparent n W C r x P N w g t l e q k f h = at_side (λ (G : ℕ) (b : Bool). insert_round_at n W C r x P G b) (done W C r) n W P N w g t l e q k f h

pub grandparent_changes : (n : ℕ) (W C : List ℕ) (x P k w g t : ℕ) (l : Option ℕ) → w ≡ par W P → l ≡ link_of n w → l ≡ Some g → t ≡ kid W true g
    → k ≡ changes n (insert_round_at_hulls n W C x P g (eqb t P)) → k ≡ changes n (insert_round_below_hulls n W C x P)
unfolding insert_round_below_hulls
grandparent_changes n W C x P k w g t l e q z f h = side_changes (λ (G : ℕ) (b : Bool). insert_round_at_hulls n W C x P G b) n W P k w g t l e q z f h

module _ (n : ℕ) (W C : List ℕ) (x w : ℕ) (l : Option ℕ) (e : w ≡ par W x) (f : l ≡ link_of n w) where
  abbrev hulls_below : ℕ → List Work
  hulls_below P = cond (red C P) (insert_round_below_hulls n W C x P) []

  pub root_changes : l ≡ None → 0 ≡ changes n (insert_round_hulls n W C x)
  unfolding insert_round_hulls
  root_changes q = hulls_unlinked 0 n (par W x) w l hulls_below e f q refl

  module _ (p : ℕ) (v : Bool) (q : l ≡ Some p) (g : v ≡ red C p) where
    pub below_changes : (k : ℕ) → v ≡ true → k ≡ changes n (insert_round_below_hulls n W C x p) → k ≡ changes n (insert_round_hulls n W C x)
    unfolding insert_round_hulls
    below_changes k z h = hulls_linked k n (par W x) w l hulls_below e f p q (rw (sym g ∙ z) h)

    pub quiet_black : v ≡ false → 0 ≡ changes n (insert_round_hulls n W C x)
    unfolding insert_round_hulls
    quiet_black z = hulls_linked 0 n (par W x) w l hulls_below e f p q (rw (sym g ∙ z))

module _ (n : ℕ) (W C : List ℕ) (r x w : ℕ) (l : Option ℕ) (e : w ≡ par W x) (f : l ≡ link_of n w) where
  abbrev below : ℕ → Next
  below P = cond (red C P) (insert_round_below n W C r x P) (done W C r)

  pub root_black : (D : List ℕ) → l ≡ None → D ≡ paint C x false → done W D r ≡ insert_round n W C r x
  unfolding insert_round
  root_black D q h = read_unlinked (done W D r) n (par W x) w l below (done W (paint C x false) r) e f q (ap (λ (B : List ℕ). done W B r) h)

  module _ (p : ℕ) (v : Bool) (q : l ≡ Some p) (g : v ≡ red C p) where
    pub parent_red : (N : Next) → v ≡ true → N ≡ insert_round_below n W C r x p → N ≡ insert_round n W C r x
    unfolding insert_round
    parent_red N z h = read_linked N n (par W x) w l below (done W (paint C x false) r) e f p q (rw (sym g ∙ z) h)

    pub parent_black_lem : v ≡ false → done W C r ≡ insert_round n W C r x
    unfolding insert_round
    parent_black_lem z = read_linked (done W C r) n (par W x) w l below (done W (paint C x false) r) e f p q (rw (sym g ∙ z))
