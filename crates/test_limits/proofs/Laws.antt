-- Chains of nodes in either layout.
use mathlib.Core.Path.{◌≡◌, refl}
use mathlib.Core.Bool.{Bool, true, false}
use Prim.Native.Nat.{ℕ, ◌+◌, ◌*◌, ◌≤◌, min}
use native.Mathlib.Omega.{arith}
use Rattle.words.specs.Layouts.{kid_fits, up_fits_lem, spared, capacity_as}
use Rattle.words.proofs.Layouts.{kid_up}
use Rattle.iset.proofs.Layouts.{room_few, room_six, room_eight}

-- a link that fits nodes of six words fits nodes of either layout
pub either_kid : (narrow : Bool) (v : ℕ) → kid_fits true v ≡ true → kid_fits narrow v ≡ true
unfolding kid_fits
either_kid true v h = h
either_kid false v h = refl

pub either_up : (narrow : Bool) (v : ℕ) → kid_fits true v ≡ true → up_fits_lem narrow v ≡ true
either_up narrow v h = kid_up narrow v (either_kid narrow v h)

-- no more nodes than the capacity, c, have their words
module _ (narrow : Bool) (k n len bytes c : ℕ) (e : c ≡ capacity_as narrow len bytes) (h : n ≡ min k c) where
  low : n ≤ c
  low = omega arith

  pub least_few : n ≤ 65535
  least_few = room_few narrow n len bytes c e low

  pub least_six : n * 6 ≤ len
  least_six = room_six narrow n len bytes c e low

  pub least_eight : n * 8 ≤ len + spared narrow
  least_eight = room_eight narrow n len bytes c e low
