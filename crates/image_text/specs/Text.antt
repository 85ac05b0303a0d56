-- The text of an image: a line with count and root, then a line for each slot with its start, end,
-- value, left, right, parent and colour. `-` is U.
-- Letters: n count, r root, a left link, b right link, c parent, e entry, I image (its bytes),
--   s slot, m slots to print, k link, v red (whether the slot is), x nothing, y refusal
use Rattle.std.specs.Prelude.{Bool, cond, Result, Ok, Err, List, [], ◌∷◌, ◌++◌, ℕ, zero, suc, eqb}
use Rattle.words.specs.Ix.{U}
use Rattle.words.specs.declared.node.Entry.{Entry}
use Rattle.lines.specs.Output.{number, next}
use Rattle.image_rule.specs.Layout.{count_in_lem, root_in_lem}
use Rattle.image_rule.specs.Stored.{entry_in_lem, link_in, red_in_lem}
use Rattle.words.specs.Refusals.{refusal_number}
use Rattle.words.specs.declared.refusal.Refusal.{Refusal}
use Rattle.image_text.specs.Judging.{image_checked}

-- a space and a link
unfoldable pub link_text : (link : ℕ) → List ℕ
link_text k = cond (eqb k U) (32 ∷ 45 ∷ []) (next k)  -- " -"

-- `count N root R`
abbrev pub count_word : List ℕ
count_word = 99 ∷ 111 ∷ 117 ∷ 110 ∷ 116 ∷ 32 ∷ []  -- "count "

abbrev pub root_word : List ℕ
root_word = 32 ∷ 114 ∷ 111 ∷ 111 ∷ 116 ∷ []  -- " root"

unfoldable pub head : (count root : ℕ) → List ℕ
head n r = count_word ++ (number n ++ (root_word ++ (link_text r ++ (10 ∷ []))))  -- "\n"

-- the parts of a slot's line: slot and entry, links, colour
unfoldable pub entry_text : (slot : ℕ) (entry : Entry) → List ℕ
entry_text s e = number s ++ (next e.start ++ (next e.end ++ next e.value))

unfoldable pub links_text : (left right parent : ℕ) → List ℕ
links_text a b c = link_text a ++ (link_text b ++ link_text c)

abbrev pub red_word : List ℕ
red_word = 32 ∷ 114 ∷ 101 ∷ 100 ∷ 10 ∷ []  -- " red\n"

abbrev pub black_word : List ℕ
black_word = 32 ∷ 98 ∷ 108 ∷ 97 ∷ 99 ∷ 107 ∷ 10 ∷ []  -- " black\n"

unfoldable pub colour_text : (red : Bool) → List ℕ
colour_text v = cond v red_word black_word

-- the line of slot s of an image of n entries
unfoldable pub row : (image : List ℕ) (count slot : ℕ) → List ℕ
row I n s = entry_text s (entry_in_lem I s) ++ (links_text (link_in I n s 0) (link_in I n s 1) (link_in I n s 2) ++ colour_text (red_in_lem I n s))

-- the lines of m slots from s on
unfoldable pub rows : (image : List ℕ) (count slot slots : ℕ) → List ℕ
rows I n s zero = []
rows I n s (suc m) = row I n s ++ rows I n (suc s) m

unfoldable pub map_text : (image : List ℕ) → List ℕ
map_text I = head (count_in_lem I) (root_in_lem I) ++ rows I (count_in_lem I) 0 (count_in_lem I)

-- `refused N`
abbrev pub refused_word : List ℕ
refused_word = 114 ∷ 101 ∷ 102 ∷ 117 ∷ 115 ∷ 101 ∷ 100 ∷ 32 ∷ []  -- "refused "

unfoldable pub refusal_text : (why : ℕ) → List ℕ
refusal_text why = refused_word ++ (number why ++ (10 ∷ []))  -- "\n"

-- what is printed of an image: `refused N` alone where it is refused
abbrev pub checked_text : (checked : Result Unit Refusal) (image : List ℕ) → List ℕ
checked_text (Ok x) I = map_text I
checked_text (Err y) I = refusal_text (refusal_number y)

unfoldable pub image_text_lem : (image : List ℕ) → List ℕ
image_text_lem I = checked_text (image_checked I) I
