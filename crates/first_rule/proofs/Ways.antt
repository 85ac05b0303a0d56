-- One way down: how many nodes it visits in a tree; and its turns, one by one, in the form that
-- `search` takes.
use mathlib.Core.Path.{◌≡◌, refl}
use mathlib.Core.Bool.{Bool, true, false, cond}
use mathlib.Core.List.{List, [], ◌∷◌}
use Prim.Native.Nat.{ℕ, zero, suc, ◌<◌, ◌≤◌}
use native.Mathlib.Omega.{arith}
use lib.Dec.{ltb}
use lib.ListN.{length}
use borrow.Author.Tests.{lt-ltb, le-ltb}
use Rattle.words.specs.Ix.{U}
use Rattle.words.specs.Nodes.{kid}
use Rattle.tree.specs.Tree.{Tree, leaf, node, height, Shape}
use Rattle.iter.specs.Lists.{when, first_or}
use Rattle.first_rule.specs.Way.{WayDown, way_end, way_nodes}

-- U, listed or not
either : (t : Bool) → first_or U (when t (U ∷ [])) ≡ U
either true = refl
either false = refl

module _ (D : WayDown) (W : List ℕ) (n : ℕ) where
  -- it visits at most as many nodes as the tree is high
  pub way_low : n ≤ 65535 → (f p k : ℕ) (t : Tree) → Shape W n p k t → length (way_nodes D W n f k) ≤ height t
  unfolding way_nodes
  way_low small zero p k t h = omega arith
  way_low small (suc f) p k leaf h = rw (h, le-ltb U n (omega arith)) (omega arith)
  way_low small (suc f) p k (node l s r) h =
      rw (h.here, lt-ltb s n h.live)
      (go (D.ends s) (D.left s) (way_low small f s (kid W true s) l h.left) (way_low small f s (kid W false s) r h.right))
    where
      go : (e b : Bool) → length (way_nodes D W n f (kid W true s)) ≤ height l → length (way_nodes D W n f (kid W false s)) ≤ height r
          → length (s ∷ cond e [] (way_nodes D W n f (kid W b s))) ≤ height (node l s r)
      go true b i j = omega arith
      go false true i j = omega arith
      go false false i j = omega arith

  -- it ends at a slot below the count, or at U
  pub end_first : (f k : ℕ) → first_or U (when (ltb (way_end D W n f k) n) (way_end D W n f k ∷ [])) ≡ way_end D W n f k
  unfolding way_end
  end_first zero k = either (ltb U n)
  end_first (suc f) k = go (ltb k n) (D.ends k) refl (end_first f (kid W (D.left k) k))
    where
      go : (i j : Bool) → ltb k n ≡ i
          → first_or U (when (ltb (way_end D W n f (kid W (D.left k) k)) n) (way_end D W n f (kid W (D.left k) k) ∷ []))
          ≡ way_end D W n f (kid W (D.left k) k)
          → first_or U (when (ltb (cond i (cond j k (way_end D W n f (kid W (D.left k) k))) U) n)
          (cond i (cond j k (way_end D W n f (kid W (D.left k) k))) U ∷ []))
          ≡ cond i (cond j k (way_end D W n f (kid W (D.left k) k))) U
      go true true e x = rw e refl
      go true false e x = x
      go false j e x = either (ltb U n)

  -- Of the way from the link k, with f nodes left to visit: it visits none; it leads to no slot; it
  -- ends at the slot k; it goes on to the child w.
  module _ (f k : ℕ) where
    pub end_spent : f ≤ 0 → way_end D W n f k ≡ U
    unfolding way_end
    end_spent h = let e : f ≡ 0 = omega arith in rw e

    pub nodes_spent : f ≤ 0 → way_nodes D W n f k ≡ []
    unfolding way_nodes
    nodes_spent h = let e : f ≡ 0 = omega arith in rw e

    pub end_gone : n ≤ k → way_end D W n f k ≡ U
    unfolding way_end
    end_gone h = go f
      where
        go : (g : ℕ) → way_end D W n g k ≡ U
        go zero = refl
        go (suc g) = rw (le-ltb k n h)

    pub nodes_gone : n ≤ k → way_nodes D W n f k ≡ []
    unfolding way_nodes
    nodes_gone h = go f
      where
        go : (g : ℕ) → way_nodes D W n g k ≡ []
        go zero = refl
        go (suc g) = rw (le-ltb k n h)

    module _ (g : ℕ) (e : f ≡ suc g) (h : k < n) where
      pub end_here : D.ends k ≡ true → way_end D W n f k ≡ k
      unfolding way_end
      end_here t = rw (e, lt-ltb k n h, t)

      pub nodes_here : D.ends k ≡ true → way_nodes D W n f k ≡ k ∷ []
      unfolding way_nodes
      nodes_here t = rw (e, lt-ltb k n h, t)

      module _ (w : ℕ) (i : w ≡ kid W (D.left k) k) (t : D.ends k ≡ false) where
        pub end_on : way_end D W n f k ≡ way_end D W n g w
        unfolding way_end
        end_on = rw (e, lt-ltb k n h, t, i)

        pub nodes_on : way_nodes D W n f k ≡ k ∷ way_nodes D W n g w
        unfolding way_nodes
        nodes_on = rw (e, lt-ltb k n h, t, i)
