-- Text in a lent buffer.
-- Letters: m map, W words, n count, p page, b byte, s text
use Rattle.std.specs.Prelude.{cond, ℕ, ◌+◌, min, length, set, ltb}
use mathlib.Core.List.{List, [], foldl}
use Rattle.words.specs.Nodes.{slots_in_lem}
use Rattle.iset.specs.declared.Map.{Map}
use Rattle.lines.specs.Output.{Page, page}
use Rattle.slotlist_core.specs.Text.{map_text, refusal_text}
use Rattle.slotlist_core.specs.Working.{Job, Listing, Mapped, Refused}

-- a byte, where there is room; a text
unfoldable pub put_byte_lem : (page : Page) (byte : ℕ) → Page
put_byte_lem p b = cond (ltb p.at (length p.out)) (page (p.at + 1) (set p.out p.at b)) p

unfoldable pub puts : (page : Page) (text : List ℕ) → Page
puts p s = foldl put_byte_lem p s

-- 1: "count .. above capacity"
unfoldable pub checked_text : (map : Map) (words : List ℕ) → List ℕ
checked_text m W = cond (ltb (min (slots_in_lem (length W)) 65535) m.count) (refusal_text 1) (map_text m.count m.root W)

-- what is printed at the end, with the map's words W
abbrev pub work_text : (work : Job) (words : List ℕ) → List ℕ
work_text (Listing n) W = []
work_text (Mapped m) W = checked_text m W
work_text (Refused why) W = refusal_text why
