-- Document 02, item 6, as one statement about what the public calls answer and leave: saving a map
-- and loading it back. `proofs/Saves` proves it.
-- Letters: m map, W words, C colours, o map that is replaced, X words of the target, D colours of
--   the target, s slot, c effect, I image (its bytes), f field
use Rattle.std.specs.Prelude.{◌≡◌, ℕ, ◌<◌, ◌≤◌, List, length, take, drop, ◌≢◌}
use Rattle.words.specs.Nodes.{word, capacity}
use Rattle.words.specs.declared.node.Field.{Field}
use Rattle.bitvec.specs.Bits.{bit_at}
use Rattle.tree.specs.Passes.{Passes}
use Rattle.little.specs.Numbers.{Bytes}
use Rattle.image_rule.specs.Layout.{image_length_lem, count_in_lem, root_in_lem}
use Rattle.image_rule.specs.Written.{Words, image_of}
use Rattle.iset.specs.Effects.{Effect, effect, output}
use Rattle.iset.specs.Maps.{next_map}
use Rattle.iset.specs.Build.{BuildAnswer, refused_build}
use Rattle.iset.specs.Image.{write_done, refused_write, write_image_call, read_image_call}
use Rattle.iset.specs.Refusals.{Exactly, write_image_rows, read_image_rows}
use Rattle.iset.specs.declared.Map.{Map}

-- the image that a call of `Map::write_image` left: as many of the first bytes as it answered
abbrev pub image_left : (map : Map) (words colours out : List ℕ) → List ℕ
image_left m W C out = take (write_image_call m W C out).answer.length (write_image_call m W C out).output

-- what is not the image's in a target of words W and colours C: slots and colour bits from the
-- count up, and all lengths
pub record Kept (count : ℕ) (W C : List ℕ) (c : Effect BuildAnswer) : Type 0 where
  pub words_kept : (f : Field) (s : ℕ) → count ≤ s → word c.words f s ≡ word W f s
  pub words_length : length c.words ≡ length W
  pub bits_kept : (s : ℕ) → count ≤ s → bit_at c.colours s ≡ bit_at C s
  pub bits_length : length c.colours ≡ length C

-- the words and the bits of m, below its count, in what a reading c left
pub record SameBelow (m : Map) (W C : List ℕ) (c : Effect BuildAnswer) : Type 0 where
  pub words_same : (f : Field) (s : ℕ) → s < m.count → word c.words f s ≡ word W f s
  pub bits_same : (s : ℕ) → s < m.count → bit_at c.colours s ≡ bit_at C s

pub record Request6 (m : Map) (W C : List ℕ) : Type 0 where
  -- "1, 2, then 9 for a short output", length 0, and no byte written
  pub write_refusals : (out : List ℕ) → Exactly (write_image_rows m W C (length out)) (write_image_call m W C out).answer.no
  pub write_refused : (out : List ℕ) → ((write_image_call m W C out).answer.no ≢ 0)
      → write_image_call m W C out ≡ output (refused_write (write_image_call m W C out).answer.no) out
  -- else the image is in the first bytes, its length is answered, and the bytes past it stay
  pub writes : (out : List ℕ) → (write_image_call m W C out).answer.no ≡ 0
      → ((write_image_call m W C out).answer.length ≡ image_length_lem m.count)
      × (image_left m W C out ≡ image_of m.count m.root W C)
      × (drop (image_length_lem m.count) (write_image_call m W C out).output ≡ drop (image_length_lem m.count) out)
  -- "12 BadImage for any other layout or length, then 1 for the target, then 2 for the store in the
  -- image .. before anything is written, answering as a refused build"
  pub read_refusals : (I : List ℕ) → Exactly (read_image_rows W C I) (read_image_call m W C I).answer.no
  pub read_refused : (I : List ℕ) → ((read_image_call m W C I).answer.no ≢ 0)
      → read_image_call m W C I ≡ effect (refused_build m (read_image_call m W C I).answer.no) W C
  -- else count and root are the image's, the version is the next one of the map that is replaced,
  -- and what is left passes the check
  pub reads : (I : List ℕ) → (read_image_call m W C I).answer.no ≡ 0 → (read_image_call m W C I).answer.map ≡ next_map m (count_in_lem I) (root_in_lem I)
  pub read_sound : (I : List ℕ) → (read_image_call m W C I).answer.no ≡ 0
      → Passes (read_image_call m W C I).words (read_image_call m W C I).colours (count_in_lem I) (root_in_lem I)
  -- "all else in the target staying"
  pub read_keeps : (I : List ℕ) → (read_image_call m W C I).answer.no ≡ 0 → Kept (count_in_lem I) W C (read_image_call m W C I)
  -- "reading what was written gives the same map but for its version", in any target with room, in
  -- the place of any map o
  pub back : Words W → (out : List ℕ) → (write_image_call m W C out).answer.no ≡ 0
      → (o : Map) (X D : List ℕ) → m.count ≤ capacity (length X) (length D)
      → ((read_image_call o X D (image_left m W C out)).answer ≡ record { no = 0; map = next_map o m.count m.root })
      × SameBelow m W C (read_image_call o X D (image_left m W C out))
  -- "what the reader accepts the writer turns into the same bytes"
  pub again : Bytes C → (I : List ℕ) → Bytes I → (read_image_call m W C I).answer.no ≡ 0 → (out : List ℕ) → length I ≤ length out
      → let c = read_image_call m W C I in
      ((write_image_call c.answer.map c.words c.colours out).answer ≡ write_done (length I))
      × (image_left c.answer.map c.words c.colours out ≡ I)
