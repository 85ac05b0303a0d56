-- Document 01's table of refusals, document 02's items 1, 4, 5, 6, 11, 13 and 14, and the fast
-- lookup:
-- for each public call its rows, a refusal's number and when it is given, in the order in which the
-- first is given.
-- Letters: m map, W words, C colours, k number that is answered or rule or limit, P condition or
--   proof that the store passes, a lower number, b higher number, y high bound, s slot or stack,
--   i place of a bit, h highest equal node, S triples, e entry, x interval, q range, c cursor,
--   t ticket, I image (its bytes)
use Rattle.std.specs.Prelude.{◌≡◌, ℕ, zero, suc, ◌/◌, ◌%◌, ◌<◌, ◌≤◌, true, ◌⊎◌, ◌↔◌, List, length, ◌≢◌}
use Rattle.words.specs.Nodes.{capacity, bits_of}
use Rattle.std.specs.declared.ops.Bound.{Bound}
use Rattle.std.specs.declared.ops.Bound.TheVariants.{Included, Excluded, Unbounded}
use Rattle.words.specs.declared.interval.Interval.{Interval}
use Rattle.words.specs.declared.interval.Span.{Span}
use Rattle.words.specs.declared.node.Entry.{Entry}
use Rattle.tree.specs.Tree.{node, times}
use Rattle.tree.specs.Order.{NotAfter}
use Rattle.tree.specs.Passes.{Passes}
use Rattle.builder.specs.Input.{start_of, end_of, interval_of_lem}
use Rattle.stack.specs.declared.ActionStack.{ActionStack}
use Rattle.iter.specs.Cursors.{fresh, ended}
use Rattle.iter.specs.declared.Cursor.{Cursor}
use Rattle.iter.specs.declared.rules.Query.{Query}
use Rattle.iter.specs.declared.rules.Query.TheVariants.{Overlap, Ruled, Exact}
use Rattle.iter_laws.specs.Addresses.{InRange}
use Rattle.iter_laws.specs.Place.{Held}
use Rattle.iter_laws.specs.Highest.{Highest}
use Rattle.image_rule.specs.Layout.{image_length_lem, count_in_lem, root_in_lem, laid_out_lem}
use Rattle.image_rule.specs.Stored.{loaded_words, loaded_colours}
use Rattle.iset.specs.Lookup.{beginning}
use Rattle.iset.specs.Ticket.{age}
use Rattle.iset.specs.declared.Map.{Map}
use Rattle.iset.specs.declared.ticket.Ticket.{Ticket}

-- rows of a table; after the last one a call is accepted
pub data Rows : Type 1 where
  accept : Rows
  refuse : (number : ℕ) (condition : Type 0) (rows : Rows) → Rows

-- A call that answers the number k, 0 where it is not refused, does so exactly as the rows say: it
-- answers a row's number exactly if the row's condition holds and that of no row before it.
abbrev pub Exactly : (rows : Rows) (number : ℕ) → Type 0
Exactly accept k = k ≡ 0
Exactly (refuse number P rows) k = ((k ≡ number) ↔ P) × ((P → ⊥) → Exactly rows k)

-- 1: "count .. above capacity"
abbrev pub NoRoom : (map : Map) (words colours : List ℕ) → Type 0
NoRoom m W C = capacity (length W) (length C) < m.count

-- 2: "the check fails"
abbrev pub Broken : (map : Map) (words colours : List ℕ) → Type 0
Broken m W C = Passes W C m.count m.root → ⊥

-- 3: "slot is not below count (U included)"
abbrev pub NoSuch : (map : Map) (slot : ℕ) → Type 0
NoSuch m s = m.count ≤ s

-- 4: "neither bound is Unbounded, and lo > hi, or lo = hi unless both are Included"
abbrev pub BadRange : (low high : Bound ℕ) → Type 0
BadRange (Included a) (Included b) = b < a
BadRange (Included a) (Excluded b) = b ≤ a
BadRange (Included a) Unbounded = ⊥
BadRange (Excluded a) (Included b) = b ≤ a
BadRange (Excluded a) (Excluded b) = b ≤ a
BadRange (Excluded a) Unbounded = ⊥
BadRange Unbounded y = ⊥

-- document 02, item 11: 4 "also for rule 2 when no whole address lies in the range, and for any
-- other rule number"
abbrev pub BadRuled : (rule : ℕ) (range : Span) → Type 0
BadRuled k q = (k ≡ 1 → BadRange q.lo q.hi) × (k ≡ 2 → (a : ℕ) → InRange q a → ⊥)

-- 5: "a given interval has start >= end"
abbrev pub BadInterval : (start stop : ℕ) → Type 0
BadInterval start stop = stop ≤ start

-- 7: "cursor has no form below"; a lookup for a range begins at the root, one for an interval
-- begins at the highest equal node, and has no held form where there is none
abbrev pub NoForm : (map : Map) (words colours : List ℕ) (cursor : Cursor) → Type 0
NoForm m W C c =
    (c ≢ fresh m.root) × (c ≢ ended) × ((P : Passes W C m.count m.root) → Held P.tree c → ⊥)

abbrev pub BadCursor : (map : Map) (words colours : List ℕ) (query : Query) (cursor : Cursor)
    → Type 0
BadCursor m W C (Overlap q) c = NoForm m W C c
BadCursor m W C (Ruled k q) c = NoForm m W C c
BadCursor m W C (Exact x) c =
    (c ≢ fresh (beginning m W (Exact x))) × (c ≢ ended)
    × ((P : Passes W C m.count m.root) (h : Highest W x P.tree (beginning m W (Exact x)))
    → Held (node h.left (beginning m W (Exact x)) h.right) c → ⊥)

-- 9: "drain limit above the output's length"; and document 02, item 8: "0 means the output's
-- length, so 9 cannot occur for it"
abbrev pub ShortOutput : (limit places : ℕ) → Type 0
ShortOutput zero places = ⊥
ShortOutput (suc k) places = places < suc k

-- "the check by itself 1, 2"
abbrev pub check_rows : (map : Map) (words colours : List ℕ) → Rows
check_rows m W C = refuse 1 (NoRoom m W C) (refuse 2 (Broken m W C) accept)

-- "build 8, 1, 5, 6"; 8: "build input length not a multiple of 3"; 1: "entries to build .. above
-- capacity"; 6: "build input falls somewhere"
abbrev pub build_rows : (words colours triples : List ℕ) → Rows
build_rows W C S =
    refuse 8 (length S % 3 ≢ 0)
    (refuse 1 (capacity (length W) (length C) < length S / 3)
    (refuse 5 ((k : ℕ) × (k < length S / 3) × BadInterval (start_of S k) (end_of S k))
    (refuse 6 ((k : ℕ) × (suc k < length S / 3) × (NotAfter (interval_of_lem S k) (interval_of_lem S (suc k)) → ⊥)) accept)))

-- "remove 1, 2, 3"
abbrev pub remove_rows : (map : Map) (words colours : List ℕ) (slot : ℕ) → Rows
remove_rows m W C s = refuse 1 (NoRoom m W C) (refuse 2 (Broken m W C) (refuse 3 (NoSuch m s) accept))

-- document 02: "NoRoom now when count has reached capacity, .. with a count above capacity also 1",
-- then 2, 5
abbrev pub insert_rows : (map : Map) (words colours : List ℕ) (entry : Entry) → Rows
insert_rows m W C e =
    refuse 1 (capacity (length W) (length C) ≤ m.count) (refuse 2 (Broken m W C) (refuse 5 (BadInterval e.start e.end) accept))

-- 11, Stale: changes lie between the ticket and the map, and not a multiple of 2^32 of them
abbrev pub Stale : (map : Map) (ticket : Ticket) → Type 0
Stale m t = age m.version t.version ≡ 0 → ⊥

-- document 02, item 4: "11 Stale, after 2 and before 3"
abbrev pub read_rows : (map : Map) (words colours : List ℕ) (ticket : Ticket) → Rows
read_rows m W C t = refuse 1 (NoRoom m W C) (refuse 2 (Broken m W C) (refuse 11 (Stale m t) (refuse 3 (NoSuch m t.slot) accept)))

-- the fresh cursor of an exact lookup: 1, 2, 5
abbrev pub start_rows : (map : Map) (words colours : List ℕ) (interval : Interval) → Rows
start_rows m W C x = refuse 1 (NoRoom m W C) (refuse 2 (Broken m W C) (refuse 5 (BadInterval x.start x.end) accept))

-- "overlap step 1, 2, 4, 7; exact step 1, 2, 5, 7"
abbrev pub step_rows : (map : Map) (words colours : List ℕ) (query : Query) (cursor : Cursor) → Rows
step_rows m W C (Overlap q) c =
    refuse 1 (NoRoom m W C) (refuse 2 (Broken m W C) (refuse 4 (BadRange q.lo q.hi) (refuse 7 (BadCursor m W C (Overlap q) c) accept)))
step_rows m W C (Ruled k q) c =
    refuse 1 (NoRoom m W C) (refuse 2 (Broken m W C) (refuse 4 (BadRuled k q) (refuse 7 (BadCursor m W C (Ruled k q) c) accept)))
step_rows m W C (Exact x) c =
    refuse 1 (NoRoom m W C) (refuse 2 (Broken m W C) (refuse 5 (BadInterval x.start x.end) (refuse 7 (BadCursor m W C (Exact x) c) accept)))

-- "drain as its step, then 9"
abbrev pub drain_rows : (map : Map) (words colours : List ℕ) (query : Query) (cursor : Cursor)
    (limit places : ℕ) → Rows
drain_rows m W C (Overlap q) c limit places =
    refuse 1 (NoRoom m W C) (refuse 2 (Broken m W C) (refuse 4 (BadRange q.lo q.hi) (refuse 7 (BadCursor m W C (Overlap q) c)
    (refuse 9 (ShortOutput limit places) accept))))
drain_rows m W C (Ruled k q) c limit places =
    refuse 1 (NoRoom m W C) (refuse 2 (Broken m W C) (refuse 4 (BadRuled k q) (refuse 7 (BadCursor m W C (Ruled k q) c)
    (refuse 9 (ShortOutput limit places) accept))))
drain_rows m W C (Exact x) c limit places =
    refuse 1 (NoRoom m W C) (refuse 2 (Broken m W C) (refuse 5 (BadInterval x.start x.end) (refuse 7 (BadCursor m W C (Exact x) c)
    (refuse 9 (ShortOutput limit places) accept))))

-- document 02, item 5: "as the drain without 7, and 9 last where the output is shorter than the
-- map's count"
abbrev pub plain_rows : (map : Map) (words colours : List ℕ) (query : Query) (places : ℕ) → Rows
plain_rows m W C (Overlap q) places =
    refuse 1 (NoRoom m W C) (refuse 2 (Broken m W C) (refuse 4 (BadRange q.lo q.hi) (refuse 9 (places < m.count) accept)))
plain_rows m W C (Ruled k q) places =
    refuse 1 (NoRoom m W C) (refuse 2 (Broken m W C) (refuse 4 (BadRuled k q) (refuse 9 (places < m.count) accept)))
plain_rows m W C (Exact x) places =
    refuse 1 (NoRoom m W C) (refuse 2 (Broken m W C) (refuse 5 (BadInterval x.start x.end) (refuse 9 (places < m.count) accept)))

-- the fast lookup, an addition to the two documents: as the plain one without 9, since hits past a
-- short output are counted and not written
abbrev pub find_all_rows : (map : Map) (words colours : List ℕ) (query : Query) → Rows
find_all_rows m W C (Overlap q) = refuse 1 (NoRoom m W C) (refuse 2 (Broken m W C) (refuse 4 (BadRange q.lo q.hi) accept))
find_all_rows m W C (Ruled k q) = refuse 1 (NoRoom m W C) (refuse 2 (Broken m W C) (refuse 4 (BadRuled k q) accept))
find_all_rows m W C (Exact x) = start_rows m W C x

-- document 02, item 13: unloading a range, "1, 2, 4", 4 as for a lookup by the rule of a number
abbrev pub unload_rows : (map : Map) (words colours : List ℕ) (rule : ℕ) (range : Span) → Rows
unload_rows m W C k q = refuse 1 (NoRoom m W C) (refuse 2 (Broken m W C) (refuse 4 (BadRuled k q) accept))

-- document 02, item 14: the planner, "1, 2, 9 (short output)"
abbrev pub propose_rows : (map : Map) (words colours : List ℕ) (places : ℕ) → Rows
propose_rows m W C places = refuse 1 (NoRoom m W C) (refuse 2 (Broken m W C) (refuse 9 (places < m.count) accept))

-- 15, BadPlan: not "exactly if it names each slot below count once"
abbrev pub BadPlan : (map : Map) (plan : List ℕ) → Type 0
BadPlan m plan = (length plan ≡ m.count) × ((s : ℕ) → s < m.count → times s plan ≡ 1) → ⊥

-- and the step that accepts a proposal: "15 BadPlan, after 2"
abbrev pub renumber_rows : (map : Map) (words colours plan : List ℕ) → Rows
renumber_rows m W C plan = refuse 1 (NoRoom m W C) (refuse 2 (Broken m W C) (refuse 15 (BadPlan m plan) accept))

-- document 02, item 6: writing an image, "1, 2, then 9 for a short output"
abbrev pub write_image_rows : (map : Map) (words colours : List ℕ) (places : ℕ) → Rows
write_image_rows m W C places =
    refuse 1 (NoRoom m W C) (refuse 2 (Broken m W C) (refuse 9 (places < image_length_lem m.count) accept))

-- the store in the image I, read into the words W and the colours C with the hulls worked out, does
-- not pass
abbrev pub NotLoaded : (words colours image : List ℕ) → Type 0
NotLoaded W C I =
    Passes (loaded_words I (count_in_lem I) (root_in_lem I) W) (loaded_colours I (count_in_lem I) C) (count_in_lem I) (root_in_lem I) → ⊥

-- reading one: "12 BadImage for any other layout or length, then 1 for the target, then 2 for the
-- store in the image, judged with hulls worked out"
abbrev pub read_image_rows : (words colours image : List ℕ) → Rows
read_image_rows W C I =
    refuse 12 (laid_out_lem I ≢ true) (refuse 1 (capacity (length W) (length C) < count_in_lem I) (refuse 2 (NotLoaded W C I) accept))

-- 10, BadBit, one by one. "length (or `from_elem` length) above bytes × 8"
abbrev pub TooLong : (bytes : List ℕ) (len : ℕ) → Type 0
TooLong bytes len = bits_of (length bytes) < len

-- "bit at or past the length"
abbrev pub PastLength : (len place : ℕ) → Type 0
PastLength len i = len ≤ i

-- "push with no byte left"; and a length of 2^64 - 1 has no next one that is a 64-bit number
-- (docs/DECISIONS.md, Bits)
abbrev pub NoByteLeft : (bytes : List ℕ) (len : ℕ) → Type 0
NoByteLeft bytes len = bits_of (length bytes) ≤ len

abbrev pub NoNextLength : (len : ℕ) → Type 0
NoNextLength len = 18446744073709551615 ≤ len

-- "pop or state mark of nothing; .. a state test of nothing", by the length or the levels
abbrev pub Nothing : (number : ℕ) → Type 0
Nothing k = k ≡ 0

-- "push .. on a stack of 32 levels"; "any stack call on more than 32 levels"
abbrev pub Full : (stack : ActionStack) → Type 0
Full s = s.levels ≡ 32

abbrev pub TooDeep : (stack : ActionStack) → Type 0
TooDeep s = 32 < s.levels

-- a bit vector's `get`, `set` and `swap_remove` of bit i; its `push`; its `pop`; `from_elem`
abbrev pub bit_rows : (bytes : List ℕ) (len place : ℕ) → Rows
bit_rows bytes len i = refuse 10 (TooLong bytes len ⊎ PastLength len i) accept

abbrev pub push_rows : (bytes : List ℕ) (len : ℕ) → Rows
push_rows bytes len = refuse 10 (TooLong bytes len ⊎ (NoByteLeft bytes len ⊎ NoNextLength len)) accept

abbrev pub pop_rows : (bytes : List ℕ) (len : ℕ) → Rows
pop_rows bytes len = refuse 10 (TooLong bytes len ⊎ Nothing len) accept

abbrev pub from_elem_rows : (bytes : List ℕ) (len : ℕ) → Rows
from_elem_rows bytes len = refuse 10 (TooLong bytes len) accept

-- a stack's `push`; its `pop`, its marks (`go_left`, `make_match`, `go_right`) and its tests
-- (`can_go_left`, `can_match`, `can_go_right`); `is_empty`. The calls on the record have the same
-- rules.
abbrev pub stack_push_rows : (stack : ActionStack) → Rows
stack_push_rows s = refuse 10 (Full s ⊎ TooDeep s) accept

abbrev pub top_rows : (stack : ActionStack) → Rows
top_rows s = refuse 10 (Nothing s.levels ⊎ TooDeep s) accept

abbrev pub is_empty_rows : (stack : ActionStack) → Rows
is_empty_rows s = refuse 10 (TooDeep s) accept
