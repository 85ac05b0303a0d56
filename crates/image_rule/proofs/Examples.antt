-- Store A's image and the empty map's, computed. They are read back, damages of them are found, and
-- addresses are looked up in the bytes.
use mathlib.Core.Path.{◌≡◌, refl}
use mathlib.Core.Bool.{true, false}
use mathlib.Core.List.{List, [], ◌∷◌, ◌++◌}
use Prim.Native.Nat.{ℕ}
use lib.ListN.{set, take, replicate}
use Rattle.words.specs.Ix.{U, on_link}
use Rattle.words.specs.Nodes.{word, put, put_entry_lem, put_hull_lem, put_node_lem, joined, hull_of, fix}
use Rattle.bitvec.specs.Bits.{bit, put as put_bit, bit_at, set_bit}
use Rattle.bitvec.specs.Calls.{bytes_for}
use Rattle.audit.specs.Survey.{pass}
use Rattle.audit.proofs.Examples.{store_A}
use Rattle.little.specs.Numbers.{number, digits}
use Rattle.image_rule.specs.declared.Seen.{Seen}
use Rattle.image_rule.specs.Judge.{whole_at, worked}
use Rattle.image_rule.specs.Layout.{count_in_lem, root_in_lem, laid_out_lem}
use Rattle.image_rule.specs.Stored.{entry_in_lem, child_in_lem, is_good, unpacked, painted, loaded_words, loaded_colours}
use Rattle.image_rule.specs.Sought.{sought}
use Rattle.image_rule.specs.Written.{header, pieces, shades, image_of}

-- the 225 bytes of store A
unfoldable pub image_A : List ℕ
image_A =
    -- count 5, root 2
    5 ∷ 0 ∷ 0 ∷ 0 ∷ 2 ∷ 0 ∷ 0 ∷ 0 ∷
    -- entries at 44, 120 bytes
    1 ∷ 0 ∷ 0 ∷ 0 ∷ 44 ∷ 0 ∷ 0 ∷ 0 ∷ 120 ∷ 0 ∷ 0 ∷ 0 ∷
    -- links at 164, 60 bytes
    2 ∷ 0 ∷ 0 ∷ 0 ∷ 164 ∷ 0 ∷ 0 ∷ 0 ∷ 60 ∷ 0 ∷ 0 ∷ 0 ∷
    -- colours at 224, 1 byte
    3 ∷ 0 ∷ 0 ∷ 0 ∷ 224 ∷ 0 ∷ 0 ∷ 0 ∷ 1 ∷ 0 ∷ 0 ∷ 0 ∷
    -- slot 0: 10 20 1
    10 ∷ 0 ∷ 0 ∷ 0 ∷ 0 ∷ 0 ∷ 0 ∷ 0 ∷ 20 ∷ 0 ∷ 0 ∷ 0 ∷ 0 ∷ 0 ∷ 0 ∷ 0 ∷ 1 ∷ 0 ∷ 0 ∷ 0 ∷ 0 ∷ 0 ∷ 0 ∷ 0 ∷
    -- slot 1: 10 30 2
    10 ∷ 0 ∷ 0 ∷ 0 ∷ 0 ∷ 0 ∷ 0 ∷ 0 ∷ 30 ∷ 0 ∷ 0 ∷ 0 ∷ 0 ∷ 0 ∷ 0 ∷ 0 ∷ 2 ∷ 0 ∷ 0 ∷ 0 ∷ 0 ∷ 0 ∷ 0 ∷ 0 ∷
    -- slot 2: 25 40 3
    25 ∷ 0 ∷ 0 ∷ 0 ∷ 0 ∷ 0 ∷ 0 ∷ 0 ∷ 40 ∷ 0 ∷ 0 ∷ 0 ∷ 0 ∷ 0 ∷ 0 ∷ 0 ∷ 3 ∷ 0 ∷ 0 ∷ 0 ∷ 0 ∷ 0 ∷ 0 ∷ 0 ∷
    -- slot 3: 40 50 4
    40 ∷ 0 ∷ 0 ∷ 0 ∷ 0 ∷ 0 ∷ 0 ∷ 0 ∷ 50 ∷ 0 ∷ 0 ∷ 0 ∷ 0 ∷ 0 ∷ 0 ∷ 0 ∷ 4 ∷ 0 ∷ 0 ∷ 0 ∷ 0 ∷ 0 ∷ 0 ∷ 0 ∷
    -- slot 4: 45 60 5
    45 ∷ 0 ∷ 0 ∷ 0 ∷ 0 ∷ 0 ∷ 0 ∷ 0 ∷ 60 ∷ 0 ∷ 0 ∷ 0 ∷ 0 ∷ 0 ∷ 0 ∷ 0 ∷ 5 ∷ 0 ∷ 0 ∷ 0 ∷ 0 ∷ 0 ∷ 0 ∷ 0 ∷
    -- slot 0: left U, right U, parent 1
    255 ∷ 255 ∷ 255 ∷ 255 ∷ 255 ∷ 255 ∷ 255 ∷ 255 ∷ 1 ∷ 0 ∷ 0 ∷ 0 ∷
    -- slot 1: left 0, right U, parent 2
    0 ∷ 0 ∷ 0 ∷ 0 ∷ 255 ∷ 255 ∷ 255 ∷ 255 ∷ 2 ∷ 0 ∷ 0 ∷ 0 ∷
    -- slot 2: left 1, right 4, parent U
    1 ∷ 0 ∷ 0 ∷ 0 ∷ 4 ∷ 0 ∷ 0 ∷ 0 ∷ 255 ∷ 255 ∷ 255 ∷ 255 ∷
    -- slot 3: left U, right U, parent 4
    255 ∷ 255 ∷ 255 ∷ 255 ∷ 255 ∷ 255 ∷ 255 ∷ 255 ∷ 4 ∷ 0 ∷ 0 ∷ 0 ∷
    -- slot 4: left 3, right U, parent 2
    3 ∷ 0 ∷ 0 ∷ 0 ∷ 255 ∷ 255 ∷ 255 ∷ 255 ∷ 2 ∷ 0 ∷ 0 ∷ 0 ∷
    -- slots 0 and 3 are red
    9 ∷ []

-- the 44 bytes of the empty map
unfoldable pub image_0 : List ℕ
image_0 =
    0 ∷ 0 ∷ 0 ∷ 0 ∷ 255 ∷ 255 ∷ 255 ∷ 255 ∷ 1 ∷ 0 ∷ 0 ∷ 0 ∷ 44 ∷ 0 ∷ 0 ∷ 0 ∷ 0 ∷ 0 ∷ 0 ∷ 0 ∷ 2 ∷ 0 ∷ 0 ∷ 0 ∷ 44 ∷ 0 ∷ 0 ∷ 0 ∷ 0 ∷ 0 ∷ 0 ∷ 0 ∷ 3 ∷ 0 ∷ 0 ∷ 0 ∷ 44 ∷ 0 ∷ 0 ∷ 0 ∷ 0 ∷ 0 ∷ 0 ∷ 0 ∷ []

-- what is found of an address in store A's image, with the value of hit k
abbrev seen : ℕ → ℕ → Seen
seen a k = sought (entry_in_lem image_A) (child_in_lem image_A 5) 5 a k 33 2 (record { hits = 0; value = 0 })

computing : Unit {0}
unfolding sought image_of header pieces shades digits number bytes_for store_A image_A image_0 laid_out_lem whole_at pass bit_at bit word worked unpacked painted loaded_words loaded_colours put put_bit put_entry_lem put_hull_lem put_node_lem joined hull_of fix on_link set_bit
computing = record {}

-- Written, read and judged. Each damage of the layout is in one number of the table, in the length
-- or in a spare bit. Each damage of the store is laid out, and it is not good.
pub record Told : Type 0 where
  pub written : image_of 5 2 store_A (9 ∷ []) ≡ image_A
  pub written_spare : image_of 5 2 store_A (233 ∷ 7 ∷ []) ≡ image_A
  pub written_empty : image_of 0 U [] [] ≡ image_0
  pub laid : laid_out_lem image_A ≡ true
  pub laid_empty : laid_out_lem image_0 ≡ true
  pub count : count_in_lem image_A ≡ 5
  pub root : root_in_lem image_A ≡ 2
  pub good : is_good image_A ≡ true
  pub good_empty : is_good image_0 ≡ true
  pub words : loaded_words image_A 5 2 (replicate 41 7) ≡ store_A ++ (7 ∷ [])
  pub colours : loaded_colours image_A 5 (64 ∷ 7 ∷ []) ≡ 73 ∷ 7 ∷ []
  pub kind : laid_out_lem (set image_A 20 3) ≡ false
  pub offset : laid_out_lem (set image_A 24 165) ≡ false
  pub size : laid_out_lem (set image_A 40 2) ≡ false
  pub fewer : laid_out_lem (set image_A 0 4) ≡ false
  pub longer : laid_out_lem (image_A ++ (0 ∷ [])) ≡ false
  pub shorter : laid_out_lem (take 224 image_A) ≡ false
  pub short : laid_out_lem (take 43 image_A) ≡ false
  pub spare : laid_out_lem (set image_A 224 41) ≡ false
  pub bad_root : laid_out_lem (set image_A 4 7) ≡ true
  pub root_refused : is_good (set image_A 4 7) ≡ false
  pub red_root : is_good (set image_A 224 13) ≡ false
  pub order : is_good (set image_A 68 9) ≡ false
  pub parent : is_good (set image_A 172 2) ≡ false
  pub cycle : is_good (set image_A 200 4) ≡ false
  pub value : is_good (set image_A 108 9) ≡ true
  pub ten : seen 10 1 ≡ record { hits = 2; value = 2 }
  pub twenty : seen 20 0 ≡ record { hits = 1; value = 2 }
  pub forty_five : seen 45 0 ≡ record { hits = 2; value = 4 }
  pub no_third : seen 10 2 ≡ record { hits = 2; value = 0 }
  pub sixty : seen 60 0 ≡ record { hits = 0; value = 0 }

pub told : Told
unfolding computing
told = record {
  written = refl;
  written_spare = refl;
  written_empty = refl;
  laid = refl;
  laid_empty = refl;
  count = refl;
  root = refl;
  good = refl;
  good_empty = refl;
  words = refl;
  colours = refl;
  kind = refl;
  offset = refl;
  size = refl;
  fewer = refl;
  longer = refl;
  shorter = refl;
  short = refl;
  spare = refl;
  bad_root = refl;
  root_refused = refl;
  red_root = refl;
  order = refl;
  parent = refl;
  cycle = refl;
  value = refl;
  ten = refl;
  twenty = refl;
  forty_five = refl;
  no_third = refl;
  sixty = refl;
}
