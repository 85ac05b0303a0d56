-- The rounds of the repair, in the form that `search` takes.
use mathlib.Core.Path.{◌≡◌, refl, sym, ap, ◌∙◌}
use mathlib.Core.Bool.{Bool, true, false, cond, not, ◌&&◌, not-not}
use mathlib.Core.List.{List}
use Prim.Native.Nat.{ℕ, ◌<◌}
use lib.Dec.{eqb}
use Rattle.words.specs.Ix.{link_of}
use Rattle.words.specs.Nodes.{kid, par, fix}
use Rattle.std.specs.declared.option.Option.{Option}
use Rattle.std.specs.declared.option.Option.TheVariants.{Some}
use Rattle.bitvec.specs.Colours.{red, red_at, paint, paint_at}
use Rattle.tree_edit.specs.Links.{root_after, replaced, set_child_lem}
use Rattle.tree_edit.specs.Rotations.{rotate, rotate_4, rotate_2}
use Rattle.tree_rm_rule.specs.Repair.{Case, one, two, three, four, five, choose, act, round_of, round_at_lem, round, repair}
use Rattle.tree_edit.specs.Rounds.{Next, done, again, ending}
use Rattle.tree_edit.specs.Store.{Store, store}
use Rattle.tree_rm_rule.specs.Remove.{restructure, restructure_with}
use Rattle.tree_rm_repair.specs.Answers.{case_of}
use Rattle.tree_rm_repair.specs.declared.Case as K
use Rattle.tree_rm_repair.specs.declared.Case.TheVariants as ks
use Rattle.tree_edit.specs.Reach.{changes, both_hulls}
use Rattle.tree_rm_rule.specs.Reach.{act_hulls, round_of_hulls, round_at_hulls, round_hulls, repair_hulls, restructure_hulls}
use Rattle.tree_links.proofs.Loops.{at_side, side_changes}
use Rattle.tree_edit.proofs.Colours.{red_slot, red_child}
use Rattle.tree_rm_rule.proofs.RepairInPlace.{four_close}
use Rattle.tree_links.proofs.LinkLaws.{read_linked, hulls_linked}

-- the choice among the cases, by which of the four are black
pub choose_black : (p s c d : Bool)
    → choose (not p) (not s) (not c) (not d)
    ≡ cond (p && c && d) (cond s one two) (cond (not p && s && c && d) three (cond (s && d && not c) four five))
unfolding choose
choose_black p true c d = simp not-not
choose_black p false c d = simp not-not

pub case_is : (k : K.Case) (p s c d a b e f : Bool) → p ≡ not a → s ≡ not b → c ≡ not e → d ≡ not f
    → case_of k ≡ choose (not p) (not s) (not c) (not d) → case_of k ≡ choose a b e f
case_is k p s c d a b e f g h i j q =
    let x : not p ≡ a = ap not g ∙ not-not a in
    let y : not s ≡ b = ap not h ∙ not-not b in
    let z : not c ≡ e = ap not i ∙ not-not e in
    let w : not d ≡ f = ap not j ∙ not-not f in
    q ∙ cc

-- the close nephew is red in case 4
pub close_there : (n : ℕ) (C : List ℕ) (p s d : Bool) (c : ℕ) (k : Case) → k ≡ choose p s (red_at n C c) d → k ≡ four → c < n
close_there n C p s d c k e f = red_slot n C c (four_close p s (red_at n C c) d (sym e ∙ f))

pub four_fits : (n c : ℕ) (k : K.Case) → (case_of k ≡ four → c < n) → k ≡ ks.Four → c < n
four_fits n c k h e = h (ap case_of e)

-- what each case writes
module _ (n : ℕ) (W C : List ℕ) (r ix : ℕ) (b : Bool) (P S c d : ℕ) (k : K.Case) where
  pub as_one : (D : List ℕ) → k ≡ ks.One → D ≡ paint C S true → again W D r P ≡ act n (case_of k) W C r ix b P S c d
  as_one D e q = rw e (ap (λ (X : List ℕ). again W X r P) q)

  pub as_two : (N : Next) → k ≡ ks.Two → N ≡ act n two W C r ix b P S 0 0 → N ≡ act n (case_of k) W C r ix b P S c d
  as_two N e q = rw e q

  pub as_three : (D E : List ℕ) → k ≡ ks.Three → D ≡ paint C P false → E ≡ paint D S true → done W E r ≡ act n (case_of k) W C r ix b P S c d
  as_three D E e p q = rw (e, ← p) (ap (λ (X : List ℕ). done W X r) q)

  pub as_four : (N : Next) → k ≡ ks.Four → N ≡ act n four W C r ix b P S c 0 → N ≡ act n (case_of k) W C r ix b P S c d
  as_four N e q = rw e q

  pub as_five : (N : Next) → k ≡ ks.Five → N ≡ act n five W C r 0 b P S 0 d → N ≡ act n (case_of k) W C r ix b P S c d
  as_five N e q = rw e q

-- and how many hulls change in it
module _ (n : ℕ) (W : List ℕ) (b : Bool) (P S c : ℕ) (k : K.Case) where
  pub quiet_one : k ≡ ks.One → 0 ≡ changes n (act_hulls n (case_of k) W b P S c)
  quiet_one e = rw e refl

  pub quiet_two : (x : ℕ) → k ≡ ks.Two → x ≡ 0 → x ≡ changes n (act_hulls n (case_of k) W b P S c)
  quiet_two x e q = rw e q

  pub quiet_three : k ≡ ks.Three → 0 ≡ changes n (act_hulls n (case_of k) W b P S c)
  quiet_three e = rw e refl

  pub loud_four : (x : ℕ) → k ≡ ks.Four → x ≡ changes n (act_hulls n four W b P S c) → x ≡ changes n (act_hulls n (case_of k) W b P S c)
  loud_four x e q = rw e q

  pub quiet_five : (x : ℕ) → k ≡ ks.Five → x ≡ 0 → x ≡ changes n (act_hulls n (case_of k) W b P S c)
  quiet_five x e q = rw e q

-- the links of cases two and four
pub two_links : (n : ℕ) (W : List ℕ) (b : Bool) (P S c : ℕ) (W₁ W₂ W₃ : List ℕ) → c ≡ kid W b S → W₁ ≡ replaced n W P S → W₂ ≡ set_child_lem n W₁ S P b
    → W₃ ≡ set_child_lem n W₂ P c (not b) → W₃ ≡ rotate_2 n W b P S
unfolding rotate_2
two_links n W b P S c W₁ W₂ W₃ e f g h = rw (← e, ← f, ← g) h

pub four_links : (n : ℕ) (W : List ℕ) (b : Bool) (P S c d : ℕ) (W₁ W₂ W₃ : List ℕ) → d ≡ kid W (not b) c → W₁ ≡ set_child_lem n W S d b
    → W₂ ≡ set_child_lem n W₁ c S (not b) → W₃ ≡ set_child_lem n W₂ P c (not b) → W₃ ≡ rotate_4 n W b P S c
unfolding rotate_4
four_links n W b P S c d W₁ W₂ W₃ e f g h = rw (← e, ← f, ← g) h

pub four_changes : (n : ℕ) (W W₁ : List ℕ) (b : Bool) (P S c x : ℕ) → W₁ ≡ rotate_4 n W b P S c → x ≡ changes n (both_hulls n W₁ S c)
    → x ≡ changes n (act_hulls n four W b P S c)
four_changes n W W₁ b P S c x e h = rw (← e) h

round_changes : (n : ℕ) (W C : List ℕ) (P : ℕ) (b : Bool) (S c d : ℕ) (k : K.Case) (x : ℕ) → c ≡ kid W b S → d ≡ kid W (not b) S
    → case_of k ≡ choose (red C P) (red C S) (red_at n C c) (red_at n C d) → x ≡ changes n (act_hulls n (case_of k) W b P S c) → x ≡ changes n (round_of_hulls n W C P b S)
unfolding round_of_hulls
round_changes n W C P b S c d k x e f g h = rw (← e, ← f, ← g) h

pub four_is : (n : ℕ) (W C : List ℕ) (r ix : ℕ) (b : Bool) (P S c : ℕ) (C₁ C₂ W₁ W₂ : List ℕ) → C₁ ≡ paint C c false → C₂ ≡ paint C₁ S true
    → W₁ ≡ rotate_4 n W b P S c → W₂ ≡ fix n (fix n W₁ S) c → again W₂ C₂ r ix ≡ act n four W C r ix b P S c 0
four_is n W C r ix b P S c C₁ C₂ W₁ W₂ e f g h = rw (← e, ← f, ← g, ← h)

pub five_is : (n : ℕ) (W C : List ℕ) (r : ℕ) (b : Bool) (P S d : ℕ) (C₁ C₂ C₃ X : List ℕ) (top : ℕ) → C₁ ≡ paint C S (red C P) → C₂ ≡ paint C₁ P false
    → C₃ ≡ paint_at n C₂ d false → top ≡ root_after n W r P S → X ≡ rotate n W b P S → done X C₃ top ≡ act n five W C r 0 b P S 0 d
five_is n W C r b P S d C₁ C₂ C₃ X top e f g h i = rw (← e, ← f, ← g, ← h, ← i)

round_is : (n : ℕ) (W C : List ℕ) (r ix P : ℕ) (b : Bool) (S c d : ℕ) (k : K.Case) (N : Next) → c ≡ kid W b S → d ≡ kid W (not b) S
    → case_of k ≡ choose (red C P) (red C S) (red_at n C c) (red_at n C d) → N ≡ act n (case_of k) W C r ix b P S c d → N ≡ round_of n W C r ix P b S
unfolding round_of
round_is n W C r ix P b S c d k N e f g h = rw (← e, ← f, ← g) h

-- the sibling S, and the links c and d of its children
module _ (n : ℕ) (W C : List ℕ) (P : ℕ) (b : Bool) (w S c d : ℕ) (l : Option ℕ) (e : w ≡ kid W (not b) P) (q : l ≡ link_of n w) (z : l ≡ Some S)
    (f : c ≡ kid W b S) (g : d ≡ kid W (not b) S) (k : K.Case) (i : case_of k ≡ choose (red C P) (red C S) (red_at n C c) (red_at n C d)) where
  pub at_sibling : (r ix : ℕ) (N : Next) → N ≡ act n (case_of k) W C r ix b P S c d → N ≡ round_at_lem n W C r ix P b
  unfolding round_at_lem
  at_sibling r ix N h =
      read_linked N n (kid W (not b) P) w l (λ (S : ℕ). round_of n W C r ix P b S) (done W C r) e q S z (round_is n W C r ix P b S c d k N f g i h)

  pub sibling_changes : (x : ℕ) → x ≡ changes n (act_hulls n (case_of k) W b P S c) → x ≡ changes n (round_at_hulls n W C P b)
  unfolding round_at_hulls
  sibling_changes x h =
      hulls_linked x n (kid W (not b) P) w l (λ (S : ℕ). round_of_hulls n W C P b S) e q S z (round_changes n W C P b S c d k x f g i h)

pub parent_changes : (n : ℕ) (W C : List ℕ) (ix x w p t : ℕ) (l : Option ℕ) → w ≡ par W ix → l ≡ link_of n w → l ≡ Some p → t ≡ kid W true p
    → x ≡ changes n (round_at_hulls n W C p (eqb t ix)) → x ≡ changes n (round_hulls n W C ix)
unfolding round_hulls
parent_changes n W C ix x w p t l e q k f h = side_changes (λ (P : ℕ) (b : Bool). round_at_hulls n W C P b) n W ix x w p t l e q k f h

pub at_parent : (n : ℕ) (W C : List ℕ) (r ix : ℕ) (N : Next) (w p x : ℕ) (l : Option ℕ) → w ≡ par W ix → l ≡ link_of n w → l ≡ Some p
    → x ≡ kid W true p → N ≡ round_at_lem n W C r ix p (eqb x ix) → N ≡ round n W C r ix
unfolding round
at_parent n W C r ix = at_side (λ (P : ℕ) (b : Bool). round_at_lem n W C r ix P b) (done W C r) n W ix

-- before a slot is vacated
module _ (n : ℕ) (W C : List ℕ) (r x y : ℕ) (v : Bool) (e : v ≡ red C x) where
  pub ready_red : v ≡ true → store W C r ≡ restructure n W C r x y
  unfolding restructure_with
  ready_red q = rw (sym e ∙ q)

  pub still_red : v ≡ true → 0 ≡ changes n (restructure_hulls n W C r x y)
  unfolding restructure_hulls
  still_red q = rw (sym e ∙ q)

  pub still_child : (w : Bool) → v ≡ false → w ≡ not (red_at n C y) → not w ≡ true → 0 ≡ changes n (restructure_hulls n W C r x y)
  unfolding restructure_hulls
  still_child w q f z = rw (sym e ∙ q, red_child w (red_at n C y) true f z)

  pub repair_changes : (w : Bool) (k : ℕ) → v ≡ false → w ≡ not (red_at n C y) → not w ≡ false → k ≡ changes n (repair_hulls n 36 W C r x)
      → k ≡ changes n (restructure_hulls n W C r x y)
  unfolding restructure_hulls
  repair_changes w k q f z d = rw (sym e ∙ q, red_child w (red_at n C y) false f z) d

  pub ready_child : (w : Bool) (D : List ℕ) → v ≡ false → w ≡ not (red_at n C y) → not w ≡ true → D ≡ paint C y true → store W D r ≡ restructure n W C r x y
  unfolding restructure_with
  ready_child w D q f z d = rw (sym e ∙ q, red_child w (red_at n C y) true f z, d)

  pub ready_repair : (w : Bool) (S : Store) → v ≡ false → w ≡ not (red_at n C y) → not w ≡ false → S ≡ ending (repair n 36 W C r x) → S ≡ restructure n W C r x y
  unfolding restructure_with
  ready_repair w S q f z d = rw (sym e ∙ q, red_child w (red_at n C y) false f z) d
