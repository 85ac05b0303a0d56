-- Laws of the least and the greatest, each proved once over the operation; and the hull of a node
-- from its children's hulls.
use mathlib.Core.Path.{◌≡◌, refl, sym, ap, ◌∙◌}
use mathlib.Core.List.{List}
use Prim.Native.Nat.{ℕ, ◌<◌, ◌≤◌, min, max}
use native.Mathlib.Omega.{arith}
use Rattle.words.specs.Nodes.{start, stop, lo, hi}
use Rattle.tree.specs.Tree.{Tree, leaf, node, occ}
use Rattle.tree.specs.Hulls.{gather, least, most, Hulls, on_root, lowest, highest}
use Rattle.tree.proofs.Cases.{compare}
use Rattle.tree.proofs.Slots.{hit_same}

-- an operation that picks one of two, as the lesser and the greater do
record Picks (op : ℕ → ℕ → ℕ) : Type 1 where
  one : {X : Type 0} (a b : ℕ) → (op a b ≡ a → X) → (op a b ≡ b → X) → X
  swap : (a b : ℕ) → op a b ≡ op b a
  group : (a b c : ℕ) → op (op a b) c ≡ op a (op b c)
  same : (a : ℕ) → op a a ≡ a
  again : (a b : ℕ) → op a (op b a) ≡ op a b

lesser : Picks min
lesser = record {
  one = λ a b x y. compare a b (λ h. x (omega arith)) (λ h. y (omega arith));
  swap = λ a b. omega arith;
  group = λ a b c. omega arith;
  same = λ a. omega arith;
  again = λ a b. omega arith;
}

greater : Picks max
greater = record {
  one = λ a b x y. compare a b (λ h. y (omega arith)) (λ h. x (omega arith));
  swap = λ a b. omega arith;
  group = λ a b c. omega arith;
  same = λ a. omega arith;
  again = λ a b. omega arith;
}

module _ (op : ℕ → ℕ → ℕ) (picks : Picks op) (f : ℕ → ℕ) where
  gather_op : (t : Tree) (a d : ℕ) → gather op f t (op a d) ≡ op (gather op f t a) d
  gather_op leaf a d = refl
  gather_op (node l s r) a d =
      rw (gather_op r a d, ← (picks.group (f s) (gather op f r a) d)) (gather_op l (op (f s) (gather op f r a)) d)

  gather_swap : (t : Tree) (a b : ℕ) → op (gather op f t a) b ≡ op (gather op f t b) a
  gather_swap t a b = sym (gather_op t a b) ∙ ap (λ (x : ℕ). gather op f t x) (picks.swap a b) ∙ gather_op t b a

  gather_same : (t : Tree) (d : ℕ) → op d (gather op f t d) ≡ gather op f t d
  gather_same t d = picks.swap d (gather op f t d) ∙ sym (gather_op t d d) ∙ ap (λ (x : ℕ). gather op f t x) (picks.same d)

  -- what is gathered is d, or the f of a slot
  gather_at : {X : Type 0} (t : Tree) (d : ℕ) → (gather op f t d ≡ d → X) → ((a : ℕ) → 0 < occ a t → f a ≡ gather op f t d → X) → X
  gather_at leaf d x y = x refl
  gather_at {X} (node l s r) d x y =
      gather_at l (op (f s) (gather op f r d))
      (λ e. picks.one (f s) (gather op f r d)
      (λ q. y s (omega (arith, hit_same s)) (sym (e ∙ q)))
      (λ q. gather_at r d (λ i. x (e ∙ q ∙ i)) (λ a o i. y a (omega arith) (i ∙ sym (e ∙ q)))))
      (λ a o e. y a (omega arith) e)

  -- each node's h is what is gathered in its subtree
  module _ (h : ℕ → ℕ) where
    abbrev Gathered : Tree → Type 0
    Gathered leaf = Unit {0}
    Gathered (node l s r) = (h s ≡ gather op f (node l s r) (f s)) × Gathered l × Gathered r

    root_of_law : (t : Tree) (d : ℕ) → Gathered t → on_root op h t d ≡ gather op f t d
    root_of_law leaf d g = refl
    root_of_law (node l s r) d g =
        rw (g.0, ← (gather_op l (op (f s) (gather op f r (f s))) d), picks.group, gather_swap r (f s) d, picks.again)

    root_node : (l : Tree) (s : ℕ) (r : Tree) → Gathered l → Gathered r → on_root op h l (on_root op h r (f s)) ≡ gather op f (node l s r) (f s)
    root_node l s r gl gr =
        root_of_law l (on_root op h r (f s)) gl
        ∙ ap (λ (x : ℕ). gather op f l x) (root_of_law r (f s) gr ∙ sym (gather_same r (f s)))

-- the least and the greatest
module _ (f : ℕ → ℕ) where
  pub least_min : (t : Tree) (a d : ℕ) → least f t (min a d) ≡ min (least f t a) d
  least_min = gather_op min lesser f

  pub most_max : (t : Tree) (a d : ℕ) → most f t (max a d) ≡ max (most f t a) d
  most_max = gather_op max greater f

  pub least_swap : (t : Tree) (a b : ℕ) → min (least f t a) b ≡ min (least f t b) a
  least_swap = gather_swap min lesser f

  pub most_swap : (t : Tree) (a b : ℕ) → max (most f t a) b ≡ max (most f t b) a
  most_swap = gather_swap max greater f

  pub least_le : (t : Tree) (d : ℕ) → least f t d ≤ d
  least_le t d = omega (arith, gather_same min lesser f t d)

  pub le_most : (t : Tree) (d : ℕ) → d ≤ most f t d
  le_most t d = omega (arith, gather_same max greater f t d)

  -- each is d, or the f of a slot
  pub least_at : {X : Type 0} (t : Tree) (d : ℕ) → (least f t d ≡ d → X) → ((a : ℕ) → 0 < occ a t → f a ≡ least f t d → X) → X
  least_at = gather_at min lesser f

  pub most_at : {X : Type 0} (t : Tree) (d : ℕ) → (most f t d ≡ d → X) → ((a : ℕ) → 0 < occ a t → f a ≡ most f t d → X) → X
  most_at = gather_at max greater f

-- the hull of a node, from its children's
module _ (W : List ℕ) where
  lows : (t : Tree) → Hulls W t → Gathered min lesser (start W) (lo W) t
  lows leaf h = tt
  lows (node l s r) h = (h.low, lows l h.left, lows r h.right)

  highs : (t : Tree) → Hulls W t → Gathered max greater (stop W) (hi W) t
  highs leaf h = tt
  highs (node l s r) h = (h.high, highs l h.left, highs r h.right)

  pub low_node : (l : Tree) (s : ℕ) (r : Tree) → Hulls W l → Hulls W r
      → lowest W l (lowest W r (start W s)) ≡ least (start W) (node l s r) (start W s)
  low_node l s r hl hr = root_node min lesser (start W) (lo W) l s r (lows l hl) (lows r hr)

  pub high_node : (l : Tree) (s : ℕ) (r : Tree) → Hulls W l → Hulls W r
      → highest W l (highest W r (stop W s)) ≡ most (stop W) (node l s r) (stop W s)
  high_node l s r hl hr = root_node max greater (stop W) (hi W) l s r (highs l hl) (highs r hr)
