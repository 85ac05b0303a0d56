-- Stores of document 01, checked by computation, and damages of them that the check finds.
use mathlib.Core.Path.{◌≡◌, refl}
use mathlib.Core.Bool.{true, false}
use mathlib.Core.List.{List, [], ◌∷◌}
use Prim.Native.Nat.{ℕ}
use native.Mathlib.Omega.{arith}
use lib.ListN.{set}
use Rattle.words.specs.Ix.{U}
use Rattle.words.specs.Nodes.{word}
use Rattle.bitvec.specs.Bits.{bit, bit_at}
use Rattle.tree.specs.Passes.{Passes}
use Rattle.audit.specs.Survey.{pass, whole_of}
use Rattle.audit.proofs.Decides.{audit_sound}

-- "[10,20) 1, [10,30) 2, [25,40) 3, [40,50) 4, [45,60) 5: root 2; 2 has 1 and 4; 1 has left 0; 4
-- has left 3; colours 9"
unfoldable pub store_A : List ℕ
store_A =
    10 ∷ 20 ∷ 1 ∷ 10 ∷ 20 ∷ U ∷ U ∷ 1 ∷
    10 ∷ 30 ∷ 2 ∷ 10 ∷ 30 ∷ 0 ∷ U ∷ 2 ∷
    25 ∷ 40 ∷ 3 ∷ 10 ∷ 60 ∷ 1 ∷ 4 ∷ U ∷
    40 ∷ 50 ∷ 4 ∷ 40 ∷ 50 ∷ U ∷ U ∷ 4 ∷
    45 ∷ 60 ∷ 5 ∷ 40 ∷ 60 ∷ 3 ∷ U ∷ 2 ∷ []

-- "three times [5,9) with values 1, 2, 3: root 1, all black"
unfoldable pub store_B : List ℕ
store_B = 5 ∷ 9 ∷ 1 ∷ 5 ∷ 9 ∷ U ∷ U ∷ 1 ∷ 5 ∷ 9 ∷ 2 ∷ 5 ∷ 9 ∷ 0 ∷ 2 ∷ U ∷ 5 ∷ 9 ∷ 3 ∷ 5 ∷ 9 ∷ U ∷ U ∷ 1 ∷ []

-- Each damage from `red_root` on is against one clause alone. In `twins` both links of the root
-- lead to slot 0, which is then counted twice: without the test of the links such a store would
-- pass, with slot 2 unreached.
pub record Told : Type 0 where
  pub store_a_lem : whole_of store_A (9 ∷ []) 5 2 ≡ true
  pub store_b_lem : whole_of store_B (0 ∷ []) 3 1 ≡ true
  pub empty : whole_of [] [] 0 U ≡ true
  pub not_empty : whole_of store_A (9 ∷ []) 0 2 ≡ false
  pub fewer : whole_of store_A (9 ∷ []) 4 2 ≡ false
  pub red_root : whole_of store_A (13 ∷ []) 5 2 ≡ false
  pub red_child : whole_of store_A (27 ∷ []) 5 2 ≡ false
  pub uneven : whole_of store_A (8 ∷ []) 5 2 ≡ false
  pub hull : whole_of (set store_A 20 61) (9 ∷ []) 5 2 ≡ false
  pub parent : whole_of (set store_A 7 2) (9 ∷ []) 5 2 ≡ false
  pub twins : whole_of (set store_B 14 0) (0 ∷ []) 3 1 ≡ false
  pub unreached : whole_of (set store_B 7 U) (0 ∷ []) 3 0 ≡ false
  pub improper : whole_of (set (set store_A 25 40) 28 40) (9 ∷ []) 5 2 ≡ false
  pub order : whole_of (set (set store_A 9 19) 12 20) (9 ∷ []) 5 2 ≡ false

pub told : Told
unfolding whole_of pass word bit_at bit store_A store_B
told = record {
  store_a_lem = refl;
  store_b_lem = refl;
  empty = refl;
  not_empty = refl;
  fewer = refl;
  red_root = refl;
  red_child = refl;
  uneven = refl;
  hull = refl;
  parent = refl;
  twins = refl;
  unreached = refl;
  improper = refl;
  order = refl;
}

pub store_A_passes : Passes store_A (9 ∷ []) 5 2
store_A_passes = audit_sound store_A (9 ∷ []) 5 2 (omega arith) told.store_a_lem

pub store_B_passes : Passes store_B (0 ∷ []) 3 1
store_B_passes = audit_sound store_B (0 ∷ []) 3 1 (omega arith) told.store_b_lem
