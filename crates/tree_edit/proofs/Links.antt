-- What is read after a write of links.
use mathlib.Core.Path.{◌≡◌, refl, ◌∙◌}
use mathlib.Core.Logic.{◌≢◌}
use mathlib.Core.Bool.{Bool, true, false, cond, not}
use mathlib.Core.List.{List}
use Prim.Native.Nat.{ℕ, ◌+◌, ◌*◌, ◌<◌, ◌≤◌}
use native.Mathlib.Omega.{arith}
use lib.ListN.{length}
use lib.Dec.{eqb, leb}
use borrow.Author.Tests.{eqb-true, eqb-false, leb-true, leb-false, lt-leb, le-leb}
use Rattle.words.specs.Ix.{on_link}
use Rattle.words.specs.Nodes.{word, kid, par, Has}
use Rattle.words.proofs.Nodes.{length_put, word_put, word_put_slot, word_put_field, in_links, kid_put_par, par_put_kid, kid_put_kid_not}
use Rattle.words.specs.declared.node.Field.{Field}
use Rattle.words.specs.declared.node.Field.TheVariants.{Child, Parent}
use Rattle.tree_edit.specs.Links.{adopt, set_child_lem, redirected, redirect, replaced}
use Rattle.tree_edit.specs.Rotations.{rotate, rotate_2, rotate_4}
use Rattle.tree_edit.proofs.Carried.{Kept}

-- a link word by cases, and what it comes to on a slot and on none
module _ {A : Type 0} (n k : ℕ) where
  pub by_link : (P : A → Type 0) (f : ℕ → A) (z : A) → (k < n → P (f k)) → (n ≤ k → P z) → P (on_link n k f z)
  unfolding on_link
  by_link P f z x y = go (leb n k) refl
    where
      go : (t : Bool) → leb n k ≡ t → P (cond t z (f k))
      go true e = y (leb-true n k e)
      go false e = x (leb-false n k e)

  pub on_slot : k < n → (f : ℕ → A) (z : A) → on_link n k f z ≡ f k
  unfolding on_link
  on_slot h f z = rw (lt-leb n k h)

  pub on_none : n ≤ k → (f : ℕ → A) (z : A) → on_link n k f z ≡ z
  unfolding on_link
  on_none h f z = rw (le-leb n k h)

pub not-not : (b : Bool) → not (not b) ≡ b
not-not true = refl
not-not false = refl

-- what holds on one side and on the other
pub by_side : (P : Bool → Type 0) (d : Bool) → P d → P (not d) → (e : Bool) → P e
by_side P true x y true = x
by_side P true x y false = y
by_side P false x y true = y
by_side P false x y false = x

-- a child that is there gets another parent
module _ (n : ℕ) (W : List ℕ) (c p : ℕ) where
  pub length_adopt : length (adopt n W c p) ≡ length W
  unfolding adopt
  length_adopt = by_link n c (λ X. length X ≡ length W) _ W (λ h. length_put W Parent c p) (λ h. refl)

  pub kept_adopt : (a : ℕ) → Kept W (adopt n W c p) a
  unfolding adopt
  kept_adopt a g q = by_link n c (λ X. word X g a ≡ word W g a) _ W (λ h. word_put_field W Parent c p in_links g a refl q) (λ h. refl)

  pub kid_adopt : (d : Bool) (a : ℕ) → kid (adopt n W c p) d a ≡ kid W d a
  unfolding adopt
  kid_adopt d a = by_link n c (λ X. kid X d a ≡ kid W d a) _ W (λ h. kid_put_par W c p d a) (λ h. refl)

  pub par_adopt : c < n → Has W c → par (adopt n W c p) c ≡ p
  unfolding adopt
  par_adopt u h = rw (on_slot n c u) (word_put W Parent c p h)

  pub word_adopt_slot : (g : Field) (a : ℕ) → a ≢ c → word (adopt n W c p) g a ≡ word W g a
  unfolding adopt
  word_adopt_slot g a d = by_link n c (λ X. word X g a ≡ word W g a) _ W (λ h. word_put_slot W Parent c p g a d) (λ h. refl)

  -- a parent that is p already stays
  pub par_adopt_kept : (a : ℕ) → Has W a → a < n → par W a ≡ p → par (adopt n W c p) a ≡ p
  par_adopt_kept a h u e = go (eqb a c) refl
    where
      go : (t : Bool) → eqb a c ≡ t → par (adopt n W c p) a ≡ p
      go true q = let i : a ≡ c = eqb-true a c q in rw i (par_adopt (omega arith) (omega arith))
      go false q = word_adopt_slot Parent a (eqb-false a c q) ∙ e

-- `set_child`
module _ (n : ℕ) (W : List ℕ) (p c : ℕ) (b : Bool) where
  pub length_set_child : length (set_child_lem n W p c b) ≡ length W
  unfolding set_child_lem
  length_set_child = length_put _ (Child b) p c ∙ length_adopt n W c p

  kept_set_child : (a : ℕ) → Kept W (set_child_lem n W p c b) a
  unfolding set_child_lem
  kept_set_child a g q = word_put_field _ (Child b) p c in_links g a refl q ∙ kept_adopt n W c p a g q

  pub kid_set_child : Has W p → kid (set_child_lem n W p c b) b p ≡ c
  unfolding set_child_lem
  kid_set_child h = word_put _ (Child b) p c (rw length_adopt h)

  pub kid_set_child_not : (d : Bool) → b ≡ not d → kid (set_child_lem n W p c b) d p ≡ kid W d p
  unfolding set_child_lem
  kid_set_child_not d e = rw e (kid_put_kid_not _ p c d p ∙ kid_adopt n W c p d p)

  pub kid_set_child_other : (d : Bool) (a : ℕ) → a ≢ p → kid (set_child_lem n W p c b) d a ≡ kid W d a
  unfolding set_child_lem
  kid_set_child_other d a h = word_put_slot _ (Child b) p c (Child d) a h ∙ kid_adopt n W c p d a

  pub par_set_child : c < n → Has W c → par (set_child_lem n W p c b) c ≡ p
  unfolding set_child_lem
  par_set_child u h = par_put_kid _ b p c c ∙ par_adopt n W c p u h

  pub par_set_child_other : (a : ℕ) → a ≢ c → par (set_child_lem n W p c b) a ≡ par W a
  unfolding set_child_lem
  par_set_child_other a h = par_put_kid _ b p c a ∙ word_adopt_slot n W c p Parent a h

-- what leads to z from g, where g is a slot, leads to v
module _ (n : ℕ) (W : List ℕ) (g z v : ℕ) where
  pub length_redirect : length (redirect n W g z v) ≡ length W
  unfolding redirect redirected
  length_redirect = by_link n g (λ X. length X ≡ length W) _ W (λ h. length_put W _ g v) (λ h. refl)

  pub kept_redirect : (a : ℕ) → Kept W (redirect n W g z v) a
  unfolding redirect redirected
  kept_redirect a f q =
      by_link n g (λ X. word X f a ≡ word W f a) _ W (λ h. word_put_field W (Child (eqb (kid W true g) z)) g v in_links f a refl q) (λ h. refl)

  pub par_redirect : (a : ℕ) → par (redirect n W g z v) a ≡ par W a
  unfolding redirect redirected
  par_redirect a = by_link n g (λ X. par X a ≡ par W a) _ W (λ h. par_put_kid W (eqb (kid W true g) z) g v a) (λ h. refl)

  pub word_redirect_slot : (f : Field) (a : ℕ) → a ≢ g → word (redirect n W g z v) f a ≡ word W f a
  unfolding redirect redirected
  word_redirect_slot f a d = by_link n g (λ X. word X f a ≡ word W f a) _ W (λ h. word_put_slot W _ g v f a d) (λ h. refl)

  -- the link of g on the side b, where z stands on that side; and the other one
  pub kid_redirect : (b : Bool) → g < n → Has W g → eqb (kid W true g) z ≡ b → kid (redirect n W g z v) b g ≡ v
  unfolding redirect redirected
  kid_redirect b u h e = rw (on_slot n g u, e) (word_put W (Child b) g v h)

  pub kid_redirect_not : (d : Bool) → eqb (kid W true g) z ≡ not d → kid (redirect n W g z v) d g ≡ kid W d g
  unfolding redirect redirected
  kid_redirect_not d e =
      by_link n g (λ X. kid X d g ≡ kid W d g) _ W (λ h. rw e (kid_put_kid_not W g v d g)) (λ h. refl)

-- `replace_children`
module _ (n : ℕ) (W : List ℕ) (old new : ℕ) where
  pub length_replaced : length (replaced n W old new) ≡ length W
  unfolding replaced
  length_replaced = length_put _ Parent new (par W old) ∙ length_redirect n W (par W old) old new

  kept_replaced : (a : ℕ) → Kept W (replaced n W old new) a
  unfolding replaced
  kept_replaced a g q = word_put_field _ Parent new _ in_links g a refl q ∙ kept_redirect n W (par W old) old new a g q

  pub par_replaced : Has W new → par (replaced n W old new) new ≡ par W old
  unfolding replaced
  par_replaced h = word_put _ Parent new (par W old) (rw length_redirect h)

  pub par_replaced_other : (a : ℕ) → a ≢ new → par (replaced n W old new) a ≡ par W a
  unfolding replaced
  par_replaced_other a h = word_put_slot _ Parent new (par W old) Parent a h ∙ par_redirect n W (par W old) old new a

  pub kid_replaced_other : (d : Bool) (a : ℕ) → a ≢ par W old → kid (replaced n W old new) d a ≡ kid W d a
  unfolding replaced
  kid_replaced_other d a h = kid_put_par _ new (par W old) d a ∙ word_redirect_slot n W (par W old) old new (Child d) a h

  pub kid_replaced : (b : Bool) → par W old < n → par W old * 8 + 8 ≤ length W → eqb (kid W true (par W old)) old ≡ b
      → kid (replaced n W old new) b (par W old) ≡ new
  unfolding replaced
  kid_replaced b u h e = kid_put_par _ new (par W old) b (par W old) ∙ kid_redirect n W (par W old) old new b u h e

  pub kid_replaced_not : (d : Bool) → eqb (kid W true (par W old)) old ≡ not d → kid (replaced n W old new) d (par W old) ≡ kid W d (par W old)
  unfolding replaced
  kid_replaced_not d e = kid_put_par _ new (par W old) d (par W old) ∙ kid_redirect_not n W (par W old) old new d e

-- the rotations of the repair
module _ (n : ℕ) (W : List ℕ) (b : Bool) (P S : ℕ) where
  pub length_rotate : length (rotate n W b P S) ≡ length W
  unfolding rotate
  length_rotate = simp (length_set_child, length_replaced)

  pub length_rotate_2 : length (rotate_2 n W b P S) ≡ length W
  unfolding rotate_2
  length_rotate_2 = simp (length_set_child, length_replaced)

  pub length_rotate_4 : (c : ℕ) → length (rotate_4 n W b P S c) ≡ length W
  unfolding rotate_4
  length_rotate_4 c = simp length_set_child

  pub kept_rotate : (a : ℕ) → Kept W (rotate n W b P S) a
  unfolding rotate
  kept_rotate a g q = kept_set_child n _ _ _ _ a g q ∙ kept_set_child n _ _ _ _ a g q ∙ kept_replaced n W P S a g q

  pub kept_rotate_2 : (a : ℕ) → Kept W (rotate_2 n W b P S) a
  unfolding rotate_2
  kept_rotate_2 a g q = kept_set_child n _ _ _ _ a g q ∙ kept_set_child n _ _ _ _ a g q ∙ kept_replaced n W P S a g q

  pub kept_rotate_4 : (c a : ℕ) → Kept W (rotate_4 n W b P S c) a
  unfolding rotate_4
  kept_rotate_4 c a g q = kept_set_child n _ _ _ _ a g q ∙ kept_set_child n _ _ _ _ a g q ∙ kept_set_child n W _ _ _ a g q
