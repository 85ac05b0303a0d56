-- What a whole input prints, line by line.
-- Letters: m map, W words, C colours, r root, b byte or end, l line, ls lines, s bytes, X words,
--   K colours, t stand, E entries (their numbers), k slot, a start, c value
use Rattle.std.specs.Prelude.{cond, List, [], ◌∷◌, ◌++◌, ℕ, ◌/◌, length, replicate, eqb, ltb}
use Rattle.iset.specs.Effects.{Effect}
use Rattle.iset.specs.Build.{BuildAnswer, build_call}
use Rattle.iset.specs.Maps.{empty_map}
use Rattle.iset.specs.Remove.{RemoveAnswer, remove_call}
use Rattle.iset.specs.declared.Map.{Map}
use Rattle.slotlist_core.specs.Words.{words, said}
use Rattle.slotlist_core.specs.Text.{map_text, refusal_text}
use Rattle.slotlist_core.specs.declared.reading.Said.{Said}
use Rattle.slotlist_core.specs.declared.reading.Said.TheVariants.{Entry, Remove, Other}

-- "LF at each line's end; the input's last LF may be missing": the lines of an input; none of an
-- empty one
abbrev pub onto : (byte : ℕ) (lines : List (List ℕ)) → List (List ℕ)
onto b [] = (b ∷ []) ∷ []
onto b (l ∷ ls) = (b ∷ l) ∷ ls

unfoldable pub lines : (bytes : List ℕ) → List (List ℕ)
lines [] = []
lines (b ∷ s) = cond (eqb b 10) ([] ∷ lines s) (onto b (lines s))

-- What the lines so far have led to: the entries' numbers; the map that was built, in its words and
-- colours; the first refusal.
pub data Stand : Type 0 where
  listed : (entries : List ℕ) → Stand
  mapped : (map : Map) (words colours : List ℕ) → Stand
  refused : (why : ℕ) → Stand

-- what a call leaves: its number, the map that it answered, the words and the colours
abbrev pub left : (why : ℕ) (map : Map) (words colours : List ℕ) → Stand
left why m W C = cond (eqb why 0) (mapped m W C) (refused why)

-- the build of the entries E in the words W and the colours C
unfoldable pub built : (words colours entries : List ℕ) → Stand
built W C E = let r : Effect BuildAnswer = build_call empty_map W C E in left r.answer.no r.answer.map r.words r.colours

-- "It builds at the first `remove` or at the end of input"
abbrev pub settled : (words colours : List ℕ) (stand : Stand) → Stand
settled W C (listed E) = built W C E
settled W C (mapped m X K) = mapped m X K
settled W C (refused why) = refused why

unfoldable pub removal : (map : Map) (words colours : List ℕ) (slot : ℕ) → Stand
removal m W C k = let r : Effect RemoveAnswer = remove_call m W C k in left r.answer.no r.answer.map r.words r.colours

abbrev pub removed : (slot : ℕ) (stand : Stand) → Stand
removed k (listed E) = listed E
removed k (mapped m W C) = removal m W C k
removed k (refused why) = refused why

-- "lines `start end value`, at most 256 ..; a 257th entry before any `remove` [counts] as NoRoom"
abbrev pub entered : (start end value : ℕ) (stand : Stand) → Stand
entered a b c (listed E) = cond (ltb (length E / 3) 256) (listed (E ++ (a ∷ b ∷ c ∷ []))) (refused 1)
entered a b c (mapped m W C) = refused 8
entered a b c (refused why) = refused why

-- "any other line counts as BadList"; "the first refusal in line order"
abbrev pub wrong : (stand : Stand) → Stand
wrong (listed E) = refused 8
wrong (mapped m W C) = refused 8
wrong (refused why) = refused why

-- one line more, with the words W and the colours C to build in
abbrev pub after : (words colours : List ℕ) (said : Said) (stand : Stand) → Stand
after W C (Entry a b c) t = entered a b c t
after W C (Remove k) t = removed k (settled W C t)
after W C Other t = wrong t

abbrev pub after_all : (words colours : List ℕ) (lines : List (List ℕ)) (stand : Stand) → Stand
after_all W C [] t = t
after_all W C (l ∷ ls) t = after_all W C ls (after W C (said (words l)) t)

-- "The first refusal in line order prints `refused N` alone"
abbrev pub text : (stand : Stand) → List ℕ
text (listed E) = []
text (mapped m W C) = map_text m.count m.root W
text (refused why) = refusal_text why

-- what is printed of a map that is built in the words W and the colours C
unfoldable pub printed_in : (words colours input : List ℕ) → List ℕ
printed_in W C input = text (settled W C (after_all W C (lines input) (listed [])))

-- and in zeroed memory for 256 entries
abbrev pub printed : (input : List ℕ) → List ℕ
printed input = printed_in (replicate 2048 0) (replicate 32 0) input
