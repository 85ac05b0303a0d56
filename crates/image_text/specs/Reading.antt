-- A text into an image. The words of the text are numbered from 0: `count`, the count, `root`, the
-- root, and eight for each slot.
-- Letters: n count, s state or text, t stage, i place of a word in the text, o name, k slot,
--   j place of the word among the slot's, b byte, v number, y why or refusal, I image (its bytes),
--   r root or result, x nothing
use Rattle.std.specs.Prelude.{Bool, false, cond, Some, Result, Ok, Err, is_ok, ◌&&◌, ◌||◌, ℕ, ◌+◌, ◌-◌, ◌*◌, ◌/◌, ◌%◌, length, set, take, eqb, ltb, leb}
use Rattle.std.specs.Option.{option_eq}
use mathlib.Core.List.{List, foldl}
use Rattle.std.proofs.lemmas.List.Edits.{sets}
use Rattle.bitvec.specs.Bits.{set_bit}
use Rattle.little.specs.Numbers.{digits}
use Rattle.image_rule.specs.Layout.{links_at_lem, colours_at_lem, image_length_lem}
use Rattle.image_rule.specs.Written.{header}
use Rattle.lines.specs.Input.{on_some}
use Rattle.image_text.specs.Judging.{image_checked}
use Rattle.image_text.specs.Words.{word_byte, is_new_lem, is_name_lem, number_in, small_in, link_said, count_name, root_name, red_name, black_name}
use Rattle.image_text.specs.declared.word.Word.TheVariants.{Empty}
use Rattle.image_text.specs.declared.reading.State.{State}
use Rattle.words.specs.declared.refusal.Refusal.{Refusal}
use Rattle.words.specs.declared.refusal.Refusal.TheVariants.{NoRoom, BadList}

-- the state, and the bytes of the image
pub record Stage : Type 0 where
  pub state : State
  pub image : List ℕ

abbrev pub stage : (state : State) (image : List ℕ) → Stage
stage s I = record { state = s; image = I }

abbrev pub begun : State
begun = record { word = Empty; place = 0; count = 0; checked = Ok tt }

abbrev pub refused_of : (state : State) (why : Refusal) → State
refused_of s y = record { word = s.word; place = s.place; count = s.count; checked = Err y }

-- the next word, with the count n
abbrev pub next_of : (state : State) (count : ℕ) → State
next_of s n = record { word = Empty; place = s.place + 1; count = n; checked = s.checked }

-- "one space between, LF at each line's end": the byte after word i
unfoldable pub end_of : (place : ℕ) → ℕ
end_of i = cond (eqb (i % 8) 3) 10 32

-- 1: the bytes have room for the image of n entries
unfoldable pub room_for : (count len : ℕ) → Bool
room_for n len = cond (ltb 65535 n) false (leb (image_length_lem n) len)

-- the first line: `count`, the count, `root`, the root
unfoldable pub named : (state : State) (name : ℕ) → State
named s o = cond (is_name_lem s.word o) (next_of s s.count) (refused_of s BadList)

unfoldable pub counted : (state : State) → State
counted s = on_some (small_in s.word) (λ n. next_of s n) (refused_of s BadList)

-- the last byte, which may have spare bits, is 0 at first; count, root and table of contents
abbrev pub cleared : (image : List ℕ) (count : ℕ) → List ℕ
cleared I n = set I (image_length_lem n - 1) 0

unfoldable pub framed : (image : List ℕ) (count root : ℕ) → List ℕ
framed I n r = sets (cleared I n) 0 (header n r)

unfoldable pub framed_in : (state : State) (root : ℕ) (image : List ℕ) → Stage
framed_in s r I =
    cond (room_for s.count (length I)) (stage (next_of s s.count) (framed I s.count r)) (stage (refused_of s NoRoom) I)

unfoldable pub rooted : (state : State) (image : List ℕ) → Stage
rooted s I = on_some (link_said s.word) (λ r. framed_in s r I) (stage (refused_of s BadList) I)

unfoldable pub head_item_lem : (state : State) (image : List ℕ) → Stage
head_item_lem s I =
    cond (eqb s.place 0) (stage (named s count_name) I)
    (cond (eqb s.place 1) (stage (counted s) I)
    (cond (eqb s.place 2) (stage (named s root_name) I) (rooted s I)))

-- the words of slot k: its number; start, end, value; left, right, parent; colour
unfoldable pub numbered : (state : State) (slot : ℕ) → State
numbered s k = cond (option_eq eqb (small_in s.word) (Some k)) (next_of s s.count) (refused_of s BadList)

unfoldable pub entry_field_lem : (state : State) (slot place : ℕ) (image : List ℕ) → Stage
entry_field_lem s k j I =
    on_some (number_in s.word)
    (λ v. stage (next_of s s.count) (sets I (44 + k * 24 + (j - 1) * 8) (digits 8 v)))
    (stage (refused_of s BadList) I)

unfoldable pub link_field_lem : (state : State) (slot place : ℕ) (image : List ℕ) → Stage
link_field_lem s k j I =
    on_some (link_said s.word)
    (λ v. stage (next_of s s.count) (sets I (links_at_lem s.count + k * 12 + (j - 4) * 4) (digits 4 v)))
    (stage (refused_of s BadList) I)

unfoldable pub colour_field_lem : (state : State) (slot : ℕ) (image : List ℕ) → Stage
colour_field_lem s k I =
    cond (is_name_lem s.word red_name || is_name_lem s.word black_name)
    (stage (next_of s s.count) (set_bit I (colours_at_lem s.count * 8 + k) (is_name_lem s.word red_name)))
    (stage (refused_of s BadList) I)

unfoldable pub field : (state : State) (slot place : ℕ) (image : List ℕ) → Stage
field s k j I =
    cond (eqb j 0) (stage (numbered s k) I) (cond (ltb j 4) (entry_field_lem s k j I) (cond (ltb j 7) (link_field_lem s k j I) (colour_field_lem s k I)))

unfoldable pub row_item_lem : (state : State) (image : List ℕ) → Stage
row_item_lem s I =
    cond (room_for s.count (length I))
    (cond (ltb ((s.place - 4) / 8) s.count) (field s ((s.place - 4) / 8) ((s.place - 4) % 8) I) (stage (refused_of s BadList) I))
    (stage (refused_of s NoRoom) I)

-- a complete word
unfoldable pub item : (state : State) (image : List ℕ) → Stage
item s I = cond (ltb s.place 4) (head_item_lem s I) (row_item_lem s I)

-- one more byte of a word
abbrev pub longer : (state : State) (byte : ℕ) → State
longer s b = record { word = word_byte s.word b; place = s.place; count = s.count; checked = s.checked }

-- one byte, and a piece of the text; the first refusal stays
unfoldable pub stepped : (stage : Stage) (byte : ℕ) → Stage
stepped t b =
    cond (is_ok t.state.checked)
    (cond (eqb b (end_of t.state.place)) (item t.state t.image) (stage (longer t.state b) t.image))
    t

unfoldable pub fed : (stage : Stage) (text : List ℕ) → Stage
fed t s = foldl stepped t s

-- "the input's last LF may be missing"
unfoldable pub last_of : (stage : Stage) → Stage
last_of t = cond (is_new_lem t.state.word) t (stepped t 10)

-- all slots are read, and nothing after them
unfoldable pub is_complete : (state : State) (len : ℕ) → Bool
is_complete s len = cond (room_for s.count len) (is_new_lem s.word && eqb s.place (4 + s.count * 8)) false

-- nothing wrong, and then r; or the refusal
abbrev pub and_then : (checked : Result Unit Refusal) (result : Result ℕ Refusal) → Result ℕ Refusal
and_then (Ok x) r = r
and_then (Err y) r = Err y

-- "where the image that the text gives would be refused"
unfoldable pub judged_as : (image : List ℕ) → Result ℕ Refusal
judged_as I = and_then (image_checked I) (Ok (length I))

unfoldable pub outcome_of : (stage : Stage) → Result ℕ Refusal
outcome_of t =
    and_then t.state.checked
    (cond (is_complete t.state (length t.image)) (judged_as (take (image_length_lem t.state.count) t.image)) (Err BadList))
