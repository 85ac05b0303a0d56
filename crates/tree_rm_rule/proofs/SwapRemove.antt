-- The Rust's `self.colors.swap_remove(i)`: the colours after the last slot has moved into the
-- vacated one are the bytes that the bit vector's `swap_remove` leaves.
use mathlib.Core.Path.{◌≡◌, refl}
use mathlib.Core.Bool.{Bool, true, false}
use mathlib.Core.List.{List}
use Prim.Native.Nat.{ℕ, ◌+◌, ◌-◌, ◌*◌, ◌<◌}
use native.Mathlib.Omega.{arith}
use lib.ListN.{length}
use lib.Dec.{eqb}
use borrow.Author.Tests.{le-leb, lt-ltb, eqb-true, eqb-false, eq-eqb, ne_eqb}
use Rattle.bitvec.specs.Calls.{allowed, gap_closed, swap_remove_bytes}
use Rattle.tree_rm_rule.specs.Remove.{swap_remove_lem}
use Rattle.words.specs.Nodes.{HoldsBits}

pub colours_swapped : (n : ℕ) (W C : List ℕ) (r v : ℕ) → HoldsBits C n → v < n → (swap_remove_lem n W C r (n - 1) v).colours ≡ swap_remove_bytes C n v
unfolding swap_remove_lem swap_remove_bytes gap_closed allowed
colours_swapped n W C r v h l = rw (le-leb n (length C * 8) h, lt-ltb v n l) (go (eqb v (n - 1)) refl)
  where
    go : (b : Bool) → eqb v (n - 1) ≡ b → (swap_remove_lem n W C r (n - 1) v).colours ≡ gap_closed C n v
    go true e = let q : v ≡ n - 1 = eqb-true v (n - 1) e in rw (e, eq-eqb (v + 1) n (omega arith))
    go false e = let q : v ≡ n - 1 → ⊥ = eqb-false v (n - 1) e in rw (e, ne_eqb (v + 1) n (λ z. q (omega arith)))
