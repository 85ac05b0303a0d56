-- Document 02, item 6: "Save a map, load it back". docs/IMAGE.md has the bytes of an image.
-- Letters: m map, W words, C colours, n count, r root, v length of an image, k number of a refusal,
--   y refusal, I image (its bytes)
use Rattle.std.specs.Prelude.{ℕ, cond, List, length, ◌==◌, nat_le, nat_lt, Result, Ok, Err}
use Rattle.words.specs.Nodes.{capacity}
use Rattle.words.specs.Refusals.{refusal_number}
use Rattle.words.specs.declared.refusal.Refusal.{Refusal}
use Rattle.iter.specs.Drains.{filled}
use Rattle.image_rule.specs.Layout.{image_length_lem, count_in_lem, root_in_lem, laid_out_lem}
use Rattle.image_rule.specs.Stored.{is_good, loaded_words, loaded_colours}
use Rattle.image_rule.specs.Written.{image_of}
use Rattle.iset.specs.Effects.{Effect, effect, Output, output}
use Rattle.iset.specs.Check.{first, count_number, check_rule}
use Rattle.iset.specs.Maps.{next_map}
use Rattle.iset.specs.Build.{BuildAnswer, refused_build}
use Rattle.iset.specs.declared.Map.{Map}

-- the first refusal's number, 0 for none, of writing the image of an opened store into an output
-- with so many places
unfoldable pub open_write_image_number : (map : Map) (words colours : List ℕ) (places : ℕ) → ℕ
open_write_image_number m W C places = first (count_number m W C) (cond (nat_le (image_length_lem m.count) places) 0 9)

-- and of the public call: "1, 2, then 9 for a short output"
unfoldable pub write_image_number : (map : Map) (words colours : List ℕ) (places : ℕ) → ℕ
write_image_number m W C places = first (check_rule m W C) (open_write_image_number m W C places)

-- what it answers: the image's length; a refusal: length 0
pub record WriteAnswer : Type 0 where
  pub no : ℕ
  pub length : ℕ

abbrev pub write_done : (length : ℕ) → WriteAnswer
write_done v = record { no = 0; length = v }

abbrev pub refused_write : (number : ℕ) → WriteAnswer
refused_write k = record { no = k; length = 0 }

-- what the code's answer stands for
abbrev pub write_answer : (written : Result ℕ Refusal) → WriteAnswer
write_answer (Ok v) = write_done v
write_answer (Err y) = refused_write (refusal_number y)

-- a call that is refused by the number k, and leaves the output as it was, or is not refused: the
-- image is in the first places of the output, and those past it stay
abbrev pub write_by : (map : Map) (words colours out : List ℕ) (number : ℕ) → Output WriteAnswer
write_by m W C out k =
    cond (k == 0) (output (write_done (image_length_lem m.count)) (filled (image_of m.count m.root W C) out)) (output (refused_write k) out)

-- the opened call
unfoldable pub open_write_image_call : (map : Map) (words colours out : List ℕ) → Output WriteAnswer
open_write_image_call m W C out = write_by m W C out (open_write_image_number m W C (length out))

-- the public call
unfoldable pub write_image_call : (map : Map) (words colours out : List ℕ) → Output WriteAnswer
write_image_call m W C out = write_by m W C out (write_image_number m W C (length out))

-- the refusal's number, 0 for none, of reading the image I into so many words and bytes: 12 "for
-- any other layout or length, then 1 for the target, then 2 for the store in the image, judged with
-- hulls worked out"
unfoldable pub read_image_number : (words bytes : ℕ) (image : List ℕ) → ℕ
read_image_number words bytes I =
    cond (laid_out_lem I) (cond (nat_lt (capacity words bytes) (count_in_lem I)) 1 (cond (is_good I) 0 2)) 12

-- an image that is accepted; "raises it by one, as a build does"
abbrev pub read_store : (map : Map) (words colours image : List ℕ) → Effect BuildAnswer
read_store m W C I =
    let n : ℕ = count_in_lem I in
    let r : ℕ = root_in_lem I in
    effect (record { no = 0; map = next_map m n r }) (loaded_words I n r W) (loaded_colours I n C)

-- the call: in the place of the map m, of which the version alone counts, into the words W and the
-- colours C, from the image I; a refusal answers "as a refused build"
unfoldable pub read_image_call : (map : Map) (words colours image : List ℕ) → Effect BuildAnswer
read_image_call m W C I =
    let k : ℕ = read_image_number (length W) (length C) I in
    cond (k == 0) (read_store m W C I) (effect (refused_build m k) W C)
