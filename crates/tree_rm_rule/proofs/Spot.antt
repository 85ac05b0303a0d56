-- The slot to vacate, with one child tree at the most: if it has a child, that one is red and bare.
use mathlib.Core.Path.{◌≡◌, refl, sym, ◌∙◌}
use mathlib.Core.Logic.{◌≢◌}
use mathlib.Core.Bool.{Bool, true, false, not, false≢true}
use mathlib.Core.List.{List}
use Prim.Native.Nat.{ℕ, ◌+◌, ◌<◌, ◌≤◌}
use native.Mathlib.Omega.{arith}
use Rattle.words.specs.Ix.{U}
use Rattle.words.specs.Nodes.{kid, par, Holds, HoldsBits}
use Rattle.bitvec.specs.Colours.{red}
use Rattle.tree.specs.Tree.{Tree, hit, occ, height, Node, Shape, leaf, node}
use Rattle.tree.specs.Zipper.{bin, Frame, plug, occs, Above}
use Rattle.tree.specs.RedBlack.{black_of, root_red, blacks, RedBlackNode, RedBlack}
use Rattle.tree.proofs.Slots.{hit_same, hit_zero, occ_bin, occ_plug}
use Rattle.tree.proofs.Frames.{open_bin, unplug_shape}
use Rattle.tree_rm_rule.specs.Remove.{child}
use Rattle.tree_edit.proofs.Beside.{HullsBy}
use Rattle.tree_edit.proofs.Fits.{Fits, open_red_black, blacks_bin, root_bin, plug_fits}
use Rattle.tree_rm_rule.proofs.Loop.{Bare}

-- The slot x of a store that passes but for the entries on the way from x up; `near` is its subtree
-- on the side b, and there is none on the other.
pub record Spot (X C : List ℕ) (n r x : ℕ) (b : Bool) (c : List Frame) (near : Tree) : Type 0 where
  pub small : n ≤ 65535
  pub fit : Holds X n
  pub bits : HoldsBits C n
  pub shape : Shape X n U r (plug c (bin b near x leaf))
  pub once : (a : ℕ) → occ a (plug c (bin b near x leaf)) ≤ 1
  pub tall : height (plug c (bin b near x leaf)) ≤ 32
  pub red_black : RedBlack (red C) (plug c (bin b near x leaf))
  pub top : root_red (red C) (plug c (bin b near x leaf)) ≡ false
  pub hulls : HullsBy X c

-- the least of two links, one of which is undefined
least_link : (b : Bool) (W : List ℕ) (x y : ℕ) → y ≤ U → kid W b x ≡ y → kid W (not b) x ≡ U → child W x ≡ y
unfolding child
least_link true W x y m p q = omega arith
least_link false W x y m p q = omega arith

-- a tree without blacks and without a red root is none
no_blacks : (K : ℕ → Bool) (t : Tree) → blacks K t ≡ 0 → root_red K t ≡ false → t ≡ leaf
no_blacks K leaf z e = refl
no_blacks K (node l s r) z e = let q : 1 + blacks K l ≡ 0 = rw e at z in absurd (omega arith)

module _ (X C : List ℕ) (n r x : ℕ) (b : Bool) (c : List Frame) (near : Tree) (h : Spot X C n r x b c near) where
  pub parts : (a : ℕ) → occs a c + (occ a near + hit a x) ≤ 1
  parts a = omega (arith, h.once a, occ_plug a c (bin b near x leaf), occ_bin a b near x leaf)

  pub at_x : Above X n r c (par X x) x × Node X n (par X x) x x (Shape X n x (kid X b x) near) (Shape X n x (kid X (not b) x) leaf)
  at_x =
      let (p, k, a, sh) = unplug_shape X n r c (bin b near x leaf) h.shape in
      let o = open_bin X n p k b near x leaf sh in
      (rw (o.here, ← o.up) at a, record { here = refl; live = o.live; up = refl; left = o.left; right = o.right })

  node_x : RedBlackNode (red C) near x leaf (RedBlack (red C) near) Unit
  node_x = open_red_black (red C) b near x leaf (plug_fits (red C) c (bin b near x leaf) h.red_black h.top).1

  pub fits_x : Fits (red C) c (black_of (red C x) + 0) (red C x)
  fits_x =
      let f = (plug_fits (red C) c (bin b near x leaf) h.red_black h.top).0 in
      rw (blacks_bin (red C) b near x leaf node_x.equal_blacks, root_bin, node_x.equal_blacks) at f

  pub no_child : near ≡ leaf → child X x ≡ U
  no_child none = least_link b X x U (omega arith) (rw none at at_x.1.left) at_x.1.right

  -- a child
  module _ (l : Tree) (y : ℕ) (l' : Tree) (near_is : near ≡ node l y l') where
    node_y : RedBlackNode (red C) l y l' (RedBlack (red C) l) (RedBlack (red C) l')
    node_y = rw near_is at node_x.left

    zero_y : black_of (red C y) + blacks (red C) l ≡ 0
    zero_y = rw near_is at node_x.equal_blacks

    pub red_y : red C y ≡ true
    red_y = go (red C y) refl
      where
        go : (t : Bool) → red C y ≡ t → red C y ≡ true
        go true e = e
        go false e = let z : 1 + blacks (red C) l ≡ 0 = rw e at zero_y in absurd (omega arith)

    pub black_x : red C x ≡ false
    black_x = go (red C x) refl
      where
        go : (t : Bool) → red C x ≡ t → red C x ≡ false
        go false e = e
        go true e = let z : red C y ≡ false = rw near_is at (node_x.no_red_red e).0 in absurd (false≢true (sym z ∙ red_y))

    pub bare_y : (l ≡ leaf) × (l' ≡ leaf)
    bare_y =
        let z : blacks (red C) l ≡ 0 = omega (arith, zero_y) in
        (no_blacks (red C) l z (node_y.no_red_red red_y).0, no_blacks (red C) l' (sym node_y.equal_blacks ∙ z) (node_y.no_red_red red_y).1)

    pub near_bare : near ≡ Bare y
    near_bare = near_is ∙ rw (bare_y.0, bare_y.1)

    pub at_y : Node X n x (kid X b x) y (Shape X n y (kid X true y) l) (Shape X n y (kid X false y) l')
    at_y = rw near_is at at_x.1.left

    pub child_y : child X x ≡ y
    child_y = least_link b X x y (omega (arith, at_y.live, h.small)) at_y.here at_x.1.right

    pub parts_y : (a : ℕ) → occs a c + hit a y + hit a x ≤ 1
    parts_y a = let z : occs a c + (occ a (Bare y) + hit a x) ≤ 1 = rw near_bare at (parts a) in omega arith

    pub x≢y : x ≢ y
    x≢y = hit_zero x y (omega (arith, parts_y x, hit_same x))

  -- the child, where there is one, is another slot than x and than those above
  pub child_apart : child X x < n → (a : ℕ) → 0 < occs a c + hit a x → child X x ≢ a
  child_apart u a o = go near refl
    where
      go : (t : Tree) → near ≡ t → child X x ≢ a
      go leaf e = absurd (omega (arith, no_child e, h.small))
      go (node l y l') e =
          rw (child_y l y l' e) (λ i. let w : 0 < occs y c + hit y x = rw (← i) at o in omega (arith, parts_y l y l' e y, hit_same y))
