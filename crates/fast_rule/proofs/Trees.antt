-- The fast lookup in a tree, under any rules.
use mathlib.Core.Path.{◌≡◌, refl, sym, ◌∙◌}
use mathlib.Core.Bool.{Bool, true, false, true≢false}
use mathlib.Core.List.{List, [], ◌∷◌, ◌++◌}
use Prim.Native.Nat.{ℕ, zero, suc, ◌+◌, ◌<◌, ◌≤◌}
use native.Mathlib.Omega.{arith}
use lib.ListN.{length, length-append}
use Rattle.words.specs.Ix.{on_link}
use Rattle.words.specs.Nodes.{kid}
use Rattle.tree.specs.Tree.{Tree, leaf, node, slots, height, times, occ, Shape}
use Rattle.tree.proofs.Slots.{times_append}
use Rattle.tree_edit.proofs.Links.{on_slot, on_none}
use Rattle.words.specs.Lists.{filter}
use Rattle.iter.specs.Lists.{when}
use Rattle.iter.specs.Walk.{Rules}
use Rattle.iter_laws.proofs.Script.{Linked, Fairs, Empty, visits}
use Rattle.words.proofs.Lists.{filter_append}
use Rattle.iter_laws.proofs.Trees.{no_hits}
use Rattle.fast_rule.specs.Fast.{entering}

-- the nodes entered in a tree whose root is entered, in tree order
abbrev pub in_order_lem : Rules → Tree → List ℕ
in_order_lem Q leaf = []
in_order_lem Q (node l s r) = when (Q.go true s) (in_order_lem Q l) ++ (s ∷ when (Q.go false s) (in_order_lem Q r))

module _ (W : List ℕ) (n : ℕ) (Q : Rules) (small : n ≤ 65535) (linked : Linked W n Q) where
  -- a child that is entered is there
  child : (b : Bool) (s h : ℕ) (l : List ℕ) → on_link n (kid W b s) (entering W Q h) [] ≡ l
      → when (Q.go b s) (entering W Q h (kid W b s)) ≡ when (Q.go b s) l
  child b s h l e = go (Q.go b s) (linked b s)
    where
      go : (g : Bool) → (g ≡ true → kid W b s < n) → when g (entering W Q h (kid W b s)) ≡ when g l
      go true f = sym (on_slot n (kid W b s) (f refl) (entering W Q h) []) ∙ e
      go false f = refl

  -- the height that is left is never used up
  pub entering_tree : (t : Tree) (h p k : ℕ) → Shape W n p k t → height t ≤ h → on_link n k (entering W Q h) [] ≡ in_order_lem Q t
  unfolding entering
  entering_tree leaf h p k u q = on_none n k (omega arith) (entering W Q h) []
  entering_tree (node l s r) zero p k u q = absurd (omega arith)
  entering_tree (node l s r) (suc h) p k u q =
      let i = entering_tree l h s (kid W true s) u.left (omega arith) in
      let j = entering_tree r h s (kid W false s) u.right (omega arith) in
      on_slot n k (rw u.here u.live) (entering W Q (suc h)) []
      ∙ rw (u.here, child true s h (in_order_lem Q l) i, child false s h (in_order_lem Q r) j)

module _ (Q : Rules) where
  part : (b : Bool) (t : Tree) → (b ≡ false → Empty Q t) → filter Q.match (in_order_lem Q t) ≡ filter Q.match (slots t)
      → filter Q.match (when b (in_order_lem Q t)) ≡ filter Q.match (slots t)
  part true t f e = e
  part false t f e = sym (no_hits Q t (f refl))

  -- no hit is lost
  pub hits_all : (t : Tree) → Fairs Q t → filter Q.match (in_order_lem Q t) ≡ filter Q.match (slots t)
  hits_all leaf h = refl
  hits_all (node l s r) h =
      rw (
        filter_append Q.match (when (Q.go true s) (in_order_lem Q l)) (s ∷ when (Q.go false s) (in_order_lem Q r)),
        filter_append Q.match (slots l) (s ∷ slots r),
        part (Q.go true s) l h.no_left (hits_all l h.left),
        part (Q.go false s) r h.no_right (hits_all r h.right),
      )

  -- no slot twice, where the tree has none twice
  pub times_most : (a : ℕ) (t : Tree) → times a (in_order_lem Q t) ≤ occ a t
  times_most a leaf = omega arith
  times_most a (node l s r) =
      rw (times_append a (when (Q.go true s) (in_order_lem Q l)) (s ∷ when (Q.go false s) (in_order_lem Q r)))
      (omega (arith, at_most (Q.go true s) l (times_most a l), at_most (Q.go false s) r (times_most a r)))
    where
      at_most : (b : Bool) (t : Tree) → times a (in_order_lem Q t) ≤ occ a t → times a (when b (in_order_lem Q t)) ≤ occ a t
      at_most true t h = h
      at_most false t h = omega arith

-- Rules F go only where the rules Q go. Then m, which counts something of a list, counts no more of
-- the nodes that F enters than of those that Q enters.
module _ (F Q : Rules) (less : (b : Bool) (s : ℕ) → F.go b s ≡ true → Q.go b s ≡ true) (m : List ℕ → ℕ) (none : m [] ≡ 0)
    (add : (xs ys : List ℕ) → m (xs ++ ys) ≡ m xs + m ys) where
  below : (i j : Bool) (xs ys : List ℕ) → (i ≡ true → j ≡ true) → m xs ≤ m ys → m (when i xs) ≤ m (when j ys)
  below true true xs ys f h = h
  below true false xs ys f h = absurd (true≢false (sym (f refl)))
  below false j xs ys f h = omega arith

  pub fewer : (t : Tree) → m (in_order_lem F t) ≤ m (visits Q t)
  fewer leaf = omega arith
  fewer (node l s r) =
      let i = below (F.go true s) (Q.go true s) (in_order_lem F l) (visits Q l) (less true s) (fewer l) in
      let j = below (F.go false s) (Q.go false s) (in_order_lem F r) (visits Q r) (less false s) (fewer r) in
      rw (
        add (when (F.go true s) (in_order_lem F l)) (s ∷ when (F.go false s) (in_order_lem F r)),
        add (s ∷ []) (when (F.go false s) (in_order_lem F r)),
        add (s ∷ []) (when (Q.go true s) (visits Q l) ++ when (Q.go false s) (visits Q r)),
        add (when (Q.go true s) (visits Q l)) (when (Q.go false s) (visits Q r)),
      )
      (omega arith)

-- so of each slot, and of their number
module _ (F Q : Rules) (less : (b : Bool) (s : ℕ) → F.go b s ≡ true → Q.go b s ≡ true) (t : Tree) where
  pub among : (a : ℕ) → times a (in_order_lem F t) ≤ times a (visits Q t)
  among a = fewer F Q less (times a) refl (times_append a) t

  pub number : length (in_order_lem F t) ≤ length (visits Q t)
  number = fewer F Q less (λ (l : List ℕ). length l) refl length-append t
