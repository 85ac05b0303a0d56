-- "Nodes: eight 64-bit words a slot: start, end, value, hull start, hull end, left, right, parent."
-- Letters: W words, f field, s slot, v new word, b side (true: left), e entry, h hull, n count or
--   nodes or bytes, k link, i one slot or bit, j other slot, d interval to extend, C bytes
use Rattle.std.specs.Prelude.{Bool, true, false, not, List, ℕ, ◌+◌, ◌*◌, ◌/◌, ◌<◌, ◌≤◌, min, get_or, set, length}
use Rattle.words.specs.Ix.{on_link}
use Rattle.words.specs.Intervals.{eq, extended}
use Rattle.words.specs.declared.interval.Interval.{Interval}
use Rattle.words.specs.declared.node.Entry.{Entry}
use Rattle.words.specs.declared.node.Field.{Field}
use Rattle.words.specs.declared.node.Field.TheVariants.{Start, End, Value, HullStart, HullEnd, Child, Parent}

-- where a word of a node stands; a child link is the left one at `true`
abbrev pub place : (field : Field) → ℕ
place Start = 0
place End = 1
place Value = 2
place HullStart = 3
place HullEnd = 4
place (Child true) = 5
place (Child false) = 6
place Parent = 7

-- one word of slot s, and the words with one of them written
unfoldable pub word : (words : List ℕ) (field : Field) (slot : ℕ) → ℕ
word W f s = get_or W (s * 8 + place f) 0

unfoldable pub put : (words : List ℕ) (field : Field) (slot new : ℕ) → List ℕ
put W f s v = set W (s * 8 + place f) v

abbrev pub start : (words : List ℕ) (slot : ℕ) → ℕ
start W s = word W Start s

abbrev pub stop : (words : List ℕ) (slot : ℕ) → ℕ
stop W s = word W End s

abbrev pub value : (words : List ℕ) (slot : ℕ) → ℕ
value W s = word W Value s

abbrev pub lo : (words : List ℕ) (slot : ℕ) → ℕ
lo W s = word W HullStart s

abbrev pub hi : (words : List ℕ) (slot : ℕ) → ℕ
hi W s = word W HullEnd s

abbrev pub kid : (words : List ℕ) (side : Bool) (slot : ℕ) → ℕ
kid W b s = word W (Child b) s

abbrev pub par : (words : List ℕ) (slot : ℕ) → ℕ
par W s = word W Parent s

-- the interval of a slot, its hull, its entry
abbrev pub interval : (words : List ℕ) (slot : ℕ) → Interval
interval W s = record { start = start W s; end = stop W s }

abbrev pub hull : (words : List ℕ) (slot : ℕ) → Interval
hull W s = record { start = lo W s; end = hi W s }

abbrev pub entry : (words : List ℕ) (slot : ℕ) → Entry
entry W s = record { start = start W s; end = stop W s; value = value W s }

abbrev pub put_kid : (words : List ℕ) (side : Bool) (slot new : ℕ) → List ℕ
put_kid W b s v = put W (Child b) s v

abbrev pub put_par : (words : List ℕ) (slot new : ℕ) → List ℕ
put_par W s v = put W Parent s v

unfoldable pub put_entry_lem : (words : List ℕ) (slot : ℕ) (entry : Entry) → List ℕ
put_entry_lem W s e = put (put (put W Start s e.start) End s e.end) Value s e.value

unfoldable pub put_hull_lem : (words : List ℕ) (slot : ℕ) (hull : Interval) → List ℕ
put_hull_lem W s h = put (put W HullStart s h.start) HullEnd s h.end

-- two slots exchange interval and value, six words; their hulls stay
unfoldable pub swap : (words : List ℕ) (one other : ℕ) → List ℕ
swap W i j = put_entry_lem (put_entry_lem W i (entry W j)) j (entry W i)

-- an interval, extended by the hull of the slot behind a link
unfoldable pub joined : (count : ℕ) (words : List ℕ) (link : ℕ) (interval : Interval) → Interval
joined n W k d = on_link n k (λ s. extended d (hull W s)) d

-- the hull from the slot's own interval and its children's hulls
unfoldable pub hull_of : (count : ℕ) (words : List ℕ) (slot : ℕ) → Interval
hull_of n W s = joined n W (kid W false s) (joined n W (kid W true s) (interval W s))

-- document 02, item 9: working a hull out changes either end
unfoldable pub altered : (count : ℕ) (words : List ℕ) (slot : ℕ) → Bool
altered n W s = not (eq (hull W s) (hull_of n W s))

-- `update_subtree_interval`
unfoldable pub fix : (count : ℕ) (words : List ℕ) (slot : ℕ) → List ℕ
fix n W s = put_hull_lem W s (hull_of n W s)

-- the eight words of a slot
unfoldable pub put_node_lem : (words : List ℕ) (slot : ℕ) (entry : Entry) (hull : Interval)
    (left right up : ℕ) → List ℕ
put_node_lem W s e h left right up = put_par (put_kid (put_kid (put_hull_lem (put_entry_lem W s e) s h) true s left) false s right) s up

-- how many words n nodes take, and how many bits n bytes have
abbrev pub words_of : (nodes : ℕ) → ℕ
words_of n = n * 8

abbrev pub bits_of : (bytes : ℕ) → ℕ
bits_of n = n * 8

-- The words W hold the nodes of n slots, and that of slot s.
abbrev pub Holds : (words : List ℕ) (count : ℕ) → Type 0
Holds W n = words_of n ≤ length W

abbrev pub Has : (words : List ℕ) (slot : ℕ) → Type 0
Has W s = words_of s + 8 ≤ length W

-- The bytes C hold n bits, as the colours of n slots, and the bit i.
abbrev pub HoldsBits : (bytes : List ℕ) (count : ℕ) → Type 0
HoldsBits C n = n ≤ bits_of (length C)

abbrev pub HasBit : (bytes : List ℕ) (bit : ℕ) → Type 0
HasBit C i = i < bits_of (length C)

-- how many slots so many node words hold
abbrev pub slots_in_lem : (words : ℕ) → ℕ
slots_in_lem words = words / 8

-- "Capacity: the least of node words div 8, colour bytes × 8, and 65,535."
abbrev pub capacity : (words bytes : ℕ) → ℕ
capacity words bytes = min (slots_in_lem words) (min (bits_of bytes) 65535)
