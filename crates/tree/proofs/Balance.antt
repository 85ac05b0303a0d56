-- A red-black tree is low.
use mathlib.Core.Path.{◌≡◌, refl}
use mathlib.Core.Bool.{Bool, true, false, cond}
use Prim.Native.Nat.{ℕ, suc, ◌+◌, ◌-◌, ◌*◌, ◌^◌, ◌≤◌, max}
use native.Mathlib.Omega.{arith}
use native.Mathlib.Nat.{pow-le-pow_right, zero-add}
use native.Mathlib.Numerals.{one-add}
use Rattle.tree.specs.Tree.{Tree, leaf, node, size, height}
use Rattle.tree.specs.RedBlack.{black_of, root_red, blacks, RedBlack}
use Rattle.tree.proofs.Cases.{compare}

-- one node more on the longest way down: b blacks below a node with the colour d, and a nodes on
-- the way below it
tall_step : (b a : ℕ) (d : Bool) → (d ≡ true → a ≤ 2 * b + 0) → 2 ^ (black_of d + b) + 2 ^ (suc a - (black_of d + b)) ≤ 2 ^ b + 2 ^ b + 2 ^ (a - b)
tall_step b a true f =
    rw zero-add (compare b a
    (λ h. let q : suc a - b ≡ suc (a - b) = omega arith in
    let p : 2 ^ (a - b) ≤ 2 ^ b = pow-le-pow_right (omega arith) (omega (arith, f refl)) in
    rw q (omega arith))
    (λ h. let p : 2 ^ (suc a - b) ≤ 2 ^ b = pow-le-pow_right (omega arith) (omega arith) in omega arith))
tall_step b a false f = let e : suc a - (1 + b) ≡ a - b = omega arith in rw (e, one-add) (omega arith)

module _ (K : ℕ → Bool) where
  -- many blacks take many nodes
  many : (t : Tree) → RedBlack K t → 2 ^ blacks K t ≤ suc (size t)
  many leaf h = omega arith
  many (node l s r) h = go (many l h.left) (rw (← h.equal_blacks) at (many r h.right)) (K s)
    where
      go : 2 ^ blacks K l ≤ suc (size l) → 2 ^ blacks K l ≤ suc (size r) → (b : Bool) → 2 ^ (black_of b + blacks K l) ≤ suc (size (node l s r))
      go x y true = rw zero-add (omega arith)
      go x y false = rw one-add (omega arith)

  -- at most every other node is red
  low : (t : Tree) → RedBlack K t → height t ≤ 2 * blacks K t + cond (root_red K t) 1 0
  low leaf h = omega arith
  low (node l s r) h = go (low l h.left) (low r h.right) (K s) refl
    where
      top : (b : Bool) → cond b 1 0 ≤ 1
      top true = omega arith
      top false = omega arith

      go : height l ≤ 2 * blacks K l + cond (root_red K l) 1 0 → height r ≤ 2 * blacks K r + cond (root_red K r) 1 0
          → (b : Bool) → K s ≡ b → suc (max (height l) (height r)) ≤ 2 * (black_of b + blacks K l) + cond b 1 0
      go x y true e =
          let x' : height l ≤ 2 * blacks K l + 0 = rw (h.no_red_red e).0 at x in
          let y' : height r ≤ 2 * blacks K r + 0 = rw (h.no_red_red e).1 at y in
          omega (arith, h.equal_blacks)
      go x y false e = omega (arith, h.equal_blacks, top (root_red K l), top (root_red K r))

  -- a high tree takes still more nodes
  tall : (t : Tree) → RedBlack K t → 2 ^ blacks K t + 2 ^ (height t - blacks K t) ≤ size t + 2
  tall leaf h = omega arith
  tall (node l s r) h =
      let x : 2 ^ blacks K l + 2 ^ (height r - blacks K l) ≤ size r + 2 = rw (← h.equal_blacks) at (tall r h.right) in
      let y : 2 ^ blacks K l ≤ suc (size r) = rw (← h.equal_blacks) at (many r h.right) in
      compare (height l) (height r)
      (λ q. let m : max (height l) (height r) ≡ height r = omega arith in
      rw m (omega (arith, many l h.left, tall_step (blacks K l) (height r) (K s) (λ e. rw ((h.no_red_red e).1, ← h.equal_blacks) at (low r h.right)))))
      (λ q. let m : max (height l) (height r) ≡ height l = omega arith in
      rw m (omega (arith, tall l h.left, tall_step (blacks K l) (height l) (K s) (λ e. rw (h.no_red_red e).0 at (low l h.left)))))

  -- with 65,535 nodes at most, the height is at most 30
  pub height_30 : (t : Tree) → RedBlack K t → root_red K t ≡ false → size t ≤ 65535 → height t ≤ 30
  height_30 t h top m =
      compare (height t) 30 (λ q. q) (λ q. absurd (compare (blacks K t) 16
      (λ b. let i : 15 ≤ height t - blacks K t = omega arith in
      let j : 16 ≤ blacks K t = omega (arith, x) in
      let y : 2 ^ 15 ≤ 2 ^ (height t - blacks K t) = pow-le-pow_right (omega arith) i in
      let z : 2 ^ 16 ≤ 2 ^ blacks K t = pow-le-pow_right (omega arith) j in
      omega (arith, tall t h))
      (λ b. let y : 2 ^ 17 ≤ 2 ^ blacks K t = pow-le-pow_right (omega arith) b in omega (arith, many t h))))
    where
      x : height t ≤ 2 * blacks K t + 0
      x = rw top at (low t h)

  -- "With 65,535 nodes at most it is at most 32."
  pub height_32 : (t : Tree) → RedBlack K t → root_red K t ≡ false → size t ≤ 65535 → height t ≤ 32
  height_32 t h top m = omega (arith, height_30 t h top m)
