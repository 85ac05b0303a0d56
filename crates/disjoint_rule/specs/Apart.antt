-- Document 02, item 10: "It has a check of its own". After the check of the store this is one test
-- of each slot with its two links.
-- Letters: W words, n count, a slot behind the link, s slot, m slots to test, r rest of the test
use Rattle.std.specs.Prelude.{Bool, true, false, ◌&&◌, List, ℕ, zero, suc, leb}
use Rattle.words.specs.Ix.{on_link}
use Rattle.words.specs.Nodes.{start, stop, lo, hi, kid}

-- what is left of slot s ends at or before its start
unfoldable pub apart_left : (words : List ℕ) (count slot : ℕ) → Bool
apart_left W n s = on_link n (kid W true s) (λ a. leb (hi W a) (start W s)) true

-- what is right of it starts at or past its end
unfoldable pub apart_right : (words : List ℕ) (count slot : ℕ) → Bool
apart_right W n s = on_link n (kid W false s) (λ a. leb (stop W s) (lo W a)) true

unfoldable pub apart_at : (words : List ℕ) (count slot : ℕ) → Bool
apart_at W n s = apart_left W n s && apart_right W n s

-- so at each slot below m
unfoldable pub apart_below : (words : List ℕ) (count slots : ℕ) → Bool
apart_below W n zero = true
apart_below W n (suc m) =
    let r : Bool = apart_below W n m in
    apart_at W n m && r
