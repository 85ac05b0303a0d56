-- Addresses looked up in the images of store A, of store A after slot 0 was removed, and of store
-- B.
use mathlib.Core.Path.{◌≡◌, refl}
use mathlib.Core.List.{List, [], ◌∷◌}
use Prim.Native.Nat.{ℕ}
use lib.ListN.{set, take}
use Rattle.words.specs.Ix.{U, on_link}
use Rattle.words.specs.Nodes.{word}
use Rattle.bitvec.specs.Bits.{bit, bit_at}
use Rattle.bitvec.specs.Calls.{bytes_for}
use Rattle.audit.specs.Survey.{pass}
use Rattle.audit.proofs.Examples.{store_B}
use Rattle.little.specs.Numbers.{number, digits}
use Rattle.image_rule.specs.Judge.{whole_at}
use Rattle.image_rule.specs.Layout.{laid_out_lem}
use Rattle.image_rule.specs.Sought.{sought}
use Rattle.image_rule.specs.Written.{header, pieces, shades, image_of}
use Rattle.image_rule.proofs.Examples.{image_A, image_0}
use Rattle.image_host.specs.Host.{host_image, seen_in_lem, host_count, host_number, host_value}

-- store A after slot 0 was removed: slot 4 moved to slot 0, and is the last entry in tree order
unfoldable pub store_moved : List ℕ
store_moved =
    45 ∷ 60 ∷ 5 ∷ 40 ∷ 60 ∷ 3 ∷ U ∷ 2 ∷
    10 ∷ 30 ∷ 2 ∷ 10 ∷ 30 ∷ U ∷ U ∷ 2 ∷
    25 ∷ 40 ∷ 3 ∷ 10 ∷ 60 ∷ 1 ∷ 0 ∷ U ∷
    40 ∷ 50 ∷ 4 ∷ 40 ∷ 50 ∷ U ∷ U ∷ 0 ∷ []

abbrev pub image_moved : List ℕ
image_moved = image_of 4 2 store_moved (8 ∷ [])

abbrev pub image_B : List ℕ
image_B = image_of 3 1 store_B (0 ∷ [])

computing : Unit {0}
unfolding host_image seen_in_lem host_count host_number host_value sought image_of header pieces shades digits number bytes_for store_B store_moved image_A image_0 laid_out_lem whole_at pass bit_at bit word on_link
computing = record {}

-- what the three calls answer for an address and k
pub record Reply : Type 0 where
  pub count : ℕ
  pub value : ℕ
  pub no : ℕ

abbrev pub asked : List ℕ → ℕ → ℕ → Reply
asked I a k = record { count = host_count I a; value = host_value I a k; no = host_number I a k }

abbrev pub reply : ℕ → ℕ → ℕ → Reply
reply c v n = record { count = c; value = v; no = n }

pub record Told : Type 0 where
  pub ten : asked image_A 10 0 ≡ reply 2 1 0
  pub ten_last : asked image_A 10 2 ≡ reply 2 0 3
  pub twenty : asked image_A 20 0 ≡ reply 1 2 0
  pub twenty_nine : asked image_A 29 1 ≡ reply 2 3 0
  pub forty_five : asked image_A 45 0 ≡ reply 2 4 0
  pub forty_five_next : asked image_A 45 1 ≡ reply 2 5 0
  pub sixty : asked image_A 60 0 ≡ reply 0 0 3
  pub greatest : asked image_A 18446744073709551615 18446744073709551615 ≡ reply 0 0 3
  pub equals : asked image_B 5 0 ≡ reply 3 1 0
  pub equals_next : asked image_B 5 1 ≡ reply 3 2 0
  pub equals_last : asked image_B 5 2 ≡ reply 3 3 0
  pub empty : asked image_0 10 0 ≡ reply 0 0 3
  pub cut : asked (take 224 image_A) 10 0 ≡ reply 0 0 12
  -- the root is red
  pub red_root : asked (set image_A 224 13) 10 0 ≡ reply 0 0 2

pub told : Told
unfolding computing
told = record {
  ten = refl;
  ten_last = refl;
  twenty = refl;
  twenty_nine = refl;
  forty_five = refl;
  forty_five_next = refl;
  sixty = refl;
  greatest = refl;
  equals = refl;
  equals_next = refl;
  equals_last = refl;
  empty = refl;
  cut = refl;
  red_root = refl;
}

-- by slots it would be 5, and then 4
pub told_moved : (asked image_moved 45 0 ≡ reply 2 4 0) × (asked image_moved 45 1 ≡ reply 2 5 0)
unfolding computing
told_moved = (refl, refl)

-- counted from 1 it would be the first value
pub told_second : host_value image_A 10 1 ≡ 2
unfolding computing
told_second = refl

-- its entries fall, since slot 1 starts at 9: the count judges it, and its refusal comes before
-- that of k
pub told_judged : host_count (set image_A 68 9) 10 ≡ 0
unfolding computing
told_judged = refl

pub told_first : host_number (set image_A 68 9) 10 2 ≡ 2
unfolding computing
told_first = refl
