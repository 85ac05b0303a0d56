-- The hulls that are worked out below a link are right, and nothing else is written. In a tree each
-- slot is entered once.
use mathlib.Core.Path.{◌≡◌, refl, sym, subst, ◌∙◌}
use mathlib.Core.Bool.{true, false}
use mathlib.Core.List.{List}
use Prim.Native.Nat.{ℕ, zero, suc, ◌+◌, ◌*◌, ◌≤◌}
use native.Mathlib.Omega.{arith}
use lib.ListN.{length}
use Rattle.words.specs.Ix.{U}
use Rattle.words.specs.Nodes.{word, kid, fix, Holds}
use Rattle.words.proofs.Nodes.{in_hull, length_fix, word_fix, word_fix_slot}
use Rattle.words.specs.declared.node.Field.{Field}
use Rattle.words.specs.declared.node.Field.TheVariants.{Child, Parent}
use Rattle.tree.specs.Tree.{Tree, leaf, node, occ, size, height, Shape}
use Rattle.tree.specs.Hulls.{Hulls}
use Rattle.tree.proofs.Slots.{hit_same, hit_zero}
use Rattle.tree.proofs.Frames.{Same, keep}
use Rattle.tree_edit.proofs.Links.{by_link, on_slot, on_none}
use Rattle.tree_edit.proofs.Beside.{hulls_same}
use Rattle.tree_edit.proofs.Upward.{fix_bin}
use Rattle.image_rule.specs.Judge.{worked, work_calls}

-- on any words
module _ (n : ℕ) where
  pub length_worked : (h : ℕ) (W : List ℕ) (k : ℕ) → length (worked n h W k) ≡ length W
  unfolding worked
  length_worked zero W k = refl
  length_worked (suc h) W k =
      by_link n k (λ X. length X ≡ length W) _ W
      (λ q. length_fix n _ k ∙ length_worked h _ _ ∙ length_worked h W _)
      (λ q. refl)

  pub word_worked : (h : ℕ) (W : List ℕ) (k : ℕ) (g : Field) (a : ℕ) → in_hull g ≡ false → word (worked n h W k) g a ≡ word W g a
  unfolding worked
  word_worked zero W k g a i = refl
  word_worked (suc h) W k g a i =
      by_link n k (λ X. word X g a ≡ word W g a) _ W
      (λ q. word_fix n _ k g a i ∙ word_worked h _ _ g a i ∙ word_worked h W _ g a i)
      (λ q. refl)

  -- slots from n up stay
  pub worked_rest : (h : ℕ) (W : List ℕ) (k : ℕ) (g : Field) (a : ℕ) → n ≤ a → word (worked n h W k) g a ≡ word W g a
  unfolding worked
  worked_rest zero W k g a u = refl
  worked_rest (suc h) W k g a u =
      by_link n k (λ X. word X g a ≡ word W g a) _ W
      (λ q. word_fix_slot n _ k g a (λ e. omega arith) ∙ worked_rest h _ _ g a u ∙ worked_rest h W _ g a u)
      (λ q. refl)

  pub same_worked : (h : ℕ) (W : List ℕ) (k a : ℕ) → Same W (worked n h W k) a
  same_worked h W k a = (λ b. word_worked h W k (Child b) a refl, word_worked h W k Parent a refl)

  no_work : (h : ℕ) (W : List ℕ) (k : ℕ) → n ≤ k → worked n h W k ≡ W
  unfolding worked
  no_work zero W k q = refl
  no_work (suc h) W k q = on_none n k q _ W

-- in a tree
module _ (n : ℕ) (small : n ≤ 65535) where
  pub worked_hulls : (h : ℕ) (W : List ℕ) (p k : ℕ) (t : Tree) → Holds W n → height t ≤ h → ((s : ℕ) → occ s t ≤ 1) → Shape W n p k t
      → Hulls (worked n h W k) t × ((a : ℕ) → occ a t ≡ 0 → (g : Field) → word (worked n h W k) g a ≡ word W g a)
  unfolding worked
  worked_hulls h W p k leaf room low one sh = let q : n ≤ k = omega (arith, sh) in (tt, λ a o g. rw (no_work n h W k q) refl)
  worked_hulls zero W p k (node l s r) room low one sh = absurd (omega arith)
  worked_hulls (suc h) W p k (node l s r) room low one sh =
      let z : (occ s l ≡ 0) × (occ s r ≡ 0) = omega (arith, one s, hit_same s) in
      let X : List ℕ = worked n h W (kid W true s) in
      let Y : List ℕ = worked n h X (kid W false s) in
      let (hl, fl) = worked_hulls h W s (kid W true s) l room (omega arith) (λ a. omega (arith, one a)) sh.left in
      let sh_x : Shape X n p k (node l s r) = keep W X n p k (node l s r) (λ a o. same_worked n h W (kid W true s) a) sh in
      let shr : Shape X n s (kid W false s) r = keep W X n s (kid W false s) r (λ a o. same_worked n h W (kid W true s) a) sh.right in
      let (hr, fr) = worked_hulls h X s (kid W false s) r (rw length_worked room) (omega arith) (λ a. omega (arith, one a)) shr in
      let sh_y : Shape Y n p k (node l s r) = keep X Y n p k (node l s r) (λ a o. same_worked n h X (kid W false s) a) sh_x in
      let hl_y : Hulls Y l = hulls_same X Y l (λ a o g q. fr a (omega (arith, one a)) g) hl in
      let all : Hulls (fix n Y s) (node l s r) =
      fix_bin Y n small (rw (length_worked n h X (kid W false s), length_worked n h W (kid W true s)) room) p k true l s r z.0 z.1 sh_y hl_y hr in
      let e : worked n (suc h) W k ≡ fix n Y s =
      rw sh.here (on_slot n s sh.live (λ s. fix n (worked n h (worked n h W (kid W true s)) (kid W false s)) s) W) in
      subst (λ (Z : List ℕ). Hulls Z (node l s r) × ((a : ℕ) → occ a (node l s r) ≡ 0 → (g : Field) → word Z g a ≡ word W g a)) (sym e)
      (all, λ a o g. word_fix_slot n Y s g a (hit_zero a s (omega arith)) ∙ fr a (omega arith) g ∙ fl a (omega arith) g)

-- in a tree, at most two calls for each slot and one
module _ (n : ℕ) where
  pub work_calls_lem : (h : ℕ) (W : List ℕ) (p k : ℕ) (t : Tree) → height t ≤ h → n ≤ U → Shape W n p k t → work_calls n h W k ≤ 2 * size t + 1
  unfolding work_calls
  work_calls_lem zero W p k t low u sh = omega arith
  work_calls_lem (suc h) W p k leaf low u sh = rw (on_none n k (omega (arith, sh))) (omega arith)
  work_calls_lem (suc h) W p k (node l s r) low u sh =
      let X : List ℕ = worked n h W (kid W true s) in
      let shr : Shape X n s (kid W false s) r = keep W X n s (kid W false s) r (λ a o. same_worked n h W (kid W true s) a) sh.right in
      let a : work_calls n h W (kid W true s) ≤ 2 * size l + 1 = work_calls_lem h W s (kid W true s) l (omega arith) u sh.left in
      let b : work_calls n h X (kid W false s) ≤ 2 * size r + 1 = work_calls_lem h X s (kid W false s) r (omega arith) u shr in
      rw (sh.here, on_slot n s sh.live) (omega arith)
