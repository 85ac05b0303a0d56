-- "Examples to hold it against": every case that is marked (*), in the document's order and beside
-- its words, and what document 02 adds; and after them cases of our own for what those leave open,
-- worked out from the documents' words by tests/model.py.
-- Letters: a start, b end, v value, k count, s slot
use Rattle.std.specs.Prelude.{true, false, List, [], ◌∷◌, ◌++◌, ℕ, zero, suc, replicate}
use Rattle.words.specs.Ix.{U}
use Rattle.words.specs.Layouts.{as_eight}
use Rattle.words.specs.Refusals.{refusal_number}
use Rattle.std.specs.declared.ops.Bound.TheVariants.{Included, Excluded, Unbounded}
use Rattle.words.specs.declared.interval.Interval.{Interval}
use Rattle.words.specs.declared.node.Entry.{Entry}
use Rattle.words.specs.declared.refusal.Refusal.TheVariants.{NoSuch, BadRange, BadInterval, ShortOutput, Stale, Overlap as Overlapping, NotDisjoint, BadPlan}
use Rattle.tree.specs.Tree.{Tree, leaf, node}
use Rattle.iter.specs.Cursors.{fresh, ended}
use Rattle.iter.specs.declared.Cursor.{Cursor}
use Rattle.iter.specs.declared.rules.Query.TheVariants.{Overlap, Exact}
use Rattle.iset.specs.Maps.{map_at}
use Rattle.iset.specs.Ticket.{ticket_of}
use Rattle.iset.specs.Sequence.{State}
use Rattle.test_document.specs.Stores.{build_in_lem, ◌at◌, ◌minus◌, ◌plus◌, ◌by◌}
use Rattle.test_document.specs.Rows.{Row, ◌gives◌, ◌to◌, moved, colours, ◌entering◌, hit, end, refused, build, remove, insert, unload, propose, renumber, root_right, slot, sixes, overlap, ruled, step, drain, exact, plain, read, find_all_lem, write, reload, ask, point, place, span, built, removed, inserted, unloaded, proposed, renumbered, link, holds, found, stepped, drained, started, looked, given, saved, loaded, hosted, pointed, placed}

-- the entry [3,6) alone
unfoldable pub lone : State
lone = build_in_lem 8 1 (3 ∷ 6 ∷ 7 ∷ [])

-- "Store A, built from [10,20) 1, [10,30) 2, [25,40) 3, [40,50) 4, [45,60) 5", in 40 words and a
-- byte
abbrev pub list_a : List ℕ
list_a = 10 ∷ 20 ∷ 1 ∷ 10 ∷ 30 ∷ 2 ∷ 25 ∷ 40 ∷ 3 ∷ 40 ∷ 50 ∷ 4 ∷ 45 ∷ 60 ∷ 5 ∷ []

unfoldable pub store_a : State
store_a = build_in_lem 40 1 list_a

-- the same with room for one entry more
unfoldable pub store_a' : State
store_a' = build_in_lem 48 1 list_a

-- Store A in nodes of six words. The last word of a slot is its left link, its right link times
-- 65536 and its parent times 4294967296, added up, with 65535 for U.
abbrev pub six_a : List ℕ
six_a =
    10 ∷ 20 ∷ 1 ∷ 10 ∷ 20 ∷ 8589934591 ∷
    10 ∷ 30 ∷ 2 ∷ 10 ∷ 30 ∷ 12884836352 ∷
    25 ∷ 40 ∷ 3 ∷ 10 ∷ 60 ∷ 281470682005505 ∷
    40 ∷ 50 ∷ 4 ∷ 40 ∷ 50 ∷ 21474836479 ∷
    45 ∷ 60 ∷ 5 ∷ 40 ∷ 60 ∷ 12884836355 ∷ []

-- that store, its words in their eight-word form
unfoldable pub store_a₆ : State
store_a₆ = record { map = store_a.map; words = as_eight true six_a; colours = store_a.colours }

-- Store A after the removal of slot 1, its slots numbered in tree order: slot by slot
abbrev pub tidy_a : List ℕ
tidy_a =
    10 ∷ 20 ∷ 1 ∷ 10 ∷ 20 ∷ U ∷ U ∷ 1 ∷
    25 ∷ 40 ∷ 3 ∷ 10 ∷ 60 ∷ 0 ∷ 3 ∷ U ∷
    40 ∷ 50 ∷ 4 ∷ 40 ∷ 50 ∷ U ∷ U ∷ 3 ∷
    45 ∷ 60 ∷ 5 ∷ 40 ∷ 60 ∷ 2 ∷ U ∷ 1 ∷
    0 ∷ 0 ∷ 0 ∷ 0 ∷ 0 ∷ U ∷ U ∷ U ∷ []

-- "Store B, three times [5,9) with values 1, 2, 3", in 24 words and a byte
abbrev pub list_b : List ℕ
list_b = 5 ∷ 9 ∷ 1 ∷ 5 ∷ 9 ∷ 2 ∷ 5 ∷ 9 ∷ 3 ∷ []

unfoldable pub store_b : State
store_b = build_in_lem 24 1 list_b

-- the entries [10,20) and [20,30), which are disjoint, with room for one more
unfoldable pub store_d : State
store_d = build_in_lem 24 1 (10 ∷ 20 ∷ 1 ∷ 20 ∷ 30 ∷ 2 ∷ [])

-- Store C, built from the 65 entries [0,1) 0, [1,2) 1, .. [64,65) 64
abbrev pub units : (start count : ℕ) → List ℕ
units a zero = []
units a (suc k) = a ∷ suc a ∷ a ∷ units (suc a) k

unfoldable pub store_c : State
store_c = build_in_lem 520 9 (units 0 65)

-- the slots from a on, k of them
abbrev pub from : (start count : ℕ) → List ℕ
from a zero = []
from a (suc k) = a ∷ from (suc a) k

-- a node without children
abbrev pub only : (slot : ℕ) → Tree
only s = node leaf s leaf

-- the interval [a, b)
infix 70 ◌until◌
abbrev pub ◌until◌ : (start end : ℕ) → Interval
◌until◌ a b = record { start = a; end = b }

-- the entry [a, b) v
abbrev pub entry : (start end value : ℕ) → Entry
entry a b v = record { start = a; end = b; value = v }

abbrev pub held : (slot levels bits : ℕ) → Cursor
held s levels bits = record { slot = s; levels = levels; bits = bits }

abbrev pub table : List Row
table =
    -- "root 2; 2 has 1 and 4; 1 has left 0; 4 has left 3; colours 9; h = 3." A line of words a
    -- slot.
    build 40 1 list_a gives built (record { no = 0; map = map_at 5 2 1 }) (record {
      tree = node (node (only 0) 1 leaf) 2 (node (only 3) 4 leaf);
      bytes = colours 9;
      h = 3;
      words =
          10 ∷ 20 ∷ 1 ∷ 10 ∷ 20 ∷ U ∷ U ∷ 1 ∷
          10 ∷ 30 ∷ 2 ∷ 10 ∷ 30 ∷ 0 ∷ U ∷ 2 ∷
          25 ∷ 40 ∷ 3 ∷ 10 ∷ 60 ∷ 1 ∷ 4 ∷ U ∷
          40 ∷ 50 ∷ 4 ∷ 40 ∷ 50 ∷ U ∷ U ∷ 4 ∷
          45 ∷ 60 ∷ 5 ∷ 40 ∷ 60 ∷ 3 ∷ U ∷ 2 ∷ [];
    }) ∷
    -- "remove 0: value 1, pairs (4,0), colours 8, root 2."
    remove store_a 0 gives removed (record { no = 0; value = 1; map = map_at 4 2 2; pairs = moved (4 to 0 ∷ []); reach = 0 }) (colours 8) ∷
    -- "remove 1: value 2, pairs (0,1), (4,0), colours 8."
    remove store_a 1 gives removed (record { no = 0; value = 2; map = map_at 4 2 2; pairs = moved (0 to 1 ∷ 4 to 0 ∷ []); reach = 1 }) (colours 8) ∷
    -- "remove 2: value 3, pairs (3,2), (4,3), colours 1."
    remove store_a 2 gives removed (record { no = 0; value = 3; map = map_at 4 2 2; pairs = moved (3 to 2 ∷ 4 to 3 ∷ []); reach = 1 }) (colours 1) ∷
    -- "remove 4: value 5, no pairs, colours 1, the root's right link is 3."
    remove store_a 4 gives removed (record { no = 0; value = 5; map = map_at 4 2 2; pairs = moved []; reach = 2 }) (colours 1) ∷
    root_right (store_a minus 4) gives link 3 ∷
    -- document 02, item 2: "The left, right and parent words of that slot become U; the other five
    -- stay 0."
    slot (store_a minus 4) 4 gives holds (0 ∷ 0 ∷ 0 ∷ 0 ∷ 0 ∷ U ∷ U ∷ U ∷ []) ∷
    -- "remove 5 or U: NoSuch."
    remove store_a 5 gives removed (record { no = refusal_number NoSuch; value = 0; map = map_at 5 2 1; pairs = moved []; reach = 0 }) (colours 9) ∷
    remove store_a U gives removed (record { no = refusal_number NoSuch; value = 0; map = map_at 5 2 1; pairs = moved []; reach = 0 }) (colours 9) ∷
    -- "Included 20, Excluded 25: hit 1 with 3 entered, then end with 0; t = 2, bound 9."
    overlap store_a (Included 20) (Excluded 25) gives
    found (record { steps = hit 1 entering 3 ∷ end entering 0 ∷ []; hits = 1 ∷ []; entered = 3 }) (record { t = 2; bound = 9 }) ∷
    -- "Included 60, Excluded 70: end with 2 entered; t = 1, bound 6."
    overlap store_a (Included 60) (Excluded 70) gives
    found (record { steps = end entering 2 ∷ []; hits = []; entered = 2 }) (record { t = 1; bound = 6 }) ∷
    -- "Excluded 20, Included 25: hits 1, 2; 3 entered."
    overlap store_a (Excluded 20) (Included 25) gives
    found (record {
      steps = hit 1 entering 3 ∷ hit 2 entering 0 ∷ end entering 0 ∷ [];
      hits = 1 ∷ 2 ∷ [];
      entered = 3;
    }) (record { t = 3; bound = 12 }) ∷
    -- "Unbounded both: 0, 1, 2, 3, 4; 5 entered; bound 18."
    overlap store_a Unbounded Unbounded gives
    found (record {
      steps = hit 0 entering 3 ∷ hit 1 entering 0 ∷ hit 2 entering 0 ∷ hit 3 entering 2 ∷ hit 4 entering 0 ∷ end entering 0 ∷ [];
      hits = 0 ∷ 1 ∷ 2 ∷ 3 ∷ 4 ∷ [];
      entered = 5;
    }) (record { t = 5; bound = 18 }) ∷
    -- "Excluded 7, Included 7: BadRange; Included both: accepted."
    step store_a (Excluded 7) (Included 7) gives stepped (record { no = refusal_number BadRange; hit = false; slot = U; next = fresh 2; entered = 0 }) ∷
    step store_a (Included 7) (Included 7) gives stepped (record { no = 0; hit = false; slot = U; next = ended; entered = 3 }) ∷
    -- "Store B .. root 1, all black."
    build 24 1 list_b gives built (record { no = 0; map = map_at 3 1 1 }) (record {
      tree = node (only 0) 1 (only 2);
      bytes = colours 0;
      h = 2;
      words =
          5 ∷ 9 ∷ 1 ∷ 5 ∷ 9 ∷ U ∷ U ∷ 1 ∷
          5 ∷ 9 ∷ 2 ∷ 5 ∷ 9 ∷ 0 ∷ 2 ∷ U ∷
          5 ∷ 9 ∷ 3 ∷ 5 ∷ 9 ∷ U ∷ U ∷ 1 ∷ [];
    }) ∷
    -- "exact [5,9): 0, 1, 2. Exact [5,8): end at once."
    exact store_b (5 until 9) gives started (record { no = 0; cursor = fresh 1 }) (record {
      steps = hit 0 entering 2 ∷ hit 1 entering 0 ∷ hit 2 entering 1 ∷ end entering 0 ∷ [];
      hits = 0 ∷ 1 ∷ 2 ∷ [];
      entered = 3;
    }) ∷
    exact store_b (5 until 8) gives started (record { no = 0; cursor = fresh U }) (record { steps = end entering 0 ∷ []; hits = []; entered = 0 }) ∷
    -- "remove 0: value 1, pair (2,0), colour byte 5, count 2."
    remove store_b 0 gives removed (record { no = 0; value = 1; map = map_at 2 1 2; pairs = moved (2 to 0 ∷ []); reach = 0 }) (colours 5) ∷
    -- "Then remove 1: value 2, no pairs, root 0, byte 4."
    remove (store_b minus 0) 1 gives removed (record { no = 0; value = 2; map = map_at 1 0 3; pairs = moved []; reach = 0 }) (colours 4) ∷
    -- "Then remove 0: value 3, root U."
    remove (store_b minus 0 minus 1) 0 gives removed (record { no = 0; value = 3; map = map_at 0 U 4; pairs = moved []; reach = 0 }) (colours 4) ∷
    -- Excluded to Excluded of one number: BadRange, as "lo = hi unless both are Included"
    step store_a (Excluded 7) (Excluded 7) gives stepped (record { no = refusal_number BadRange; hit = false; slot = U; next = fresh 2; entered = 0 }) ∷
    -- [20,30) 1, [10,10) 2 falls and has a bad interval: "build 8, 1, 5, 6", so BadInterval
    build 16 1 (20 ∷ 30 ∷ 1 ∷ 10 ∷ 10 ∷ 2 ∷ []) gives built (record { no = refusal_number BadInterval; map = map_at 0 U 0 }) (record {
      tree = leaf;
      bytes = colours 0;
      h = 0;
      words = 0 ∷ 0 ∷ 0 ∷ 0 ∷ 0 ∷ 0 ∷ 0 ∷ 0 ∷ 0 ∷ 0 ∷ 0 ∷ 0 ∷ 0 ∷ 0 ∷ 0 ∷ 0 ∷ [];
    }) ∷
    -- a drain of 2 into 3 places, and the next one: from [10,30) 2, which is held, was left, then
    -- returned
    drain store_a Unbounded Unbounded (fresh 2) 2 (7 ∷ 7 ∷ 7 ∷ []) gives
    drained (record { no = 0; hits = 2; entered = 3; next = held 1 2 6 }) (0 ∷ 1 ∷ 7 ∷ []) ∷
    drain store_a Unbounded Unbounded (held 1 2 6) 4 (7 ∷ 7 ∷ 7 ∷ 7 ∷ []) gives
    drained (record { no = 0; hits = 3; entered = 2; next = ended }) (2 ∷ 3 ∷ 4 ∷ 7 ∷ []) ∷
    -- a limit above the output's length: ShortOutput
    drain store_a Unbounded Unbounded (fresh 2) 2 (7 ∷ []) gives
    drained (record { no = refusal_number ShortOutput; hits = 0; entered = 0; next = fresh 2 }) (7 ∷ []) ∷
    -- an insertion under a black node, in slot 5
    insert store_a' (entry 25 30 6) gives inserted (record { no = 0; slot = 5; map = map_at 6 2 2; reach = 0 }) (record {
      tree = node (node (only 0) 1 (only 5)) 2 (node (only 3) 4 leaf);
      bytes = colours 41;
      h = 3;
      words =
          10 ∷ 20 ∷ 1 ∷ 10 ∷ 20 ∷ U ∷ U ∷ 1 ∷
          10 ∷ 30 ∷ 2 ∷ 10 ∷ 30 ∷ 0 ∷ 5 ∷ 2 ∷
          25 ∷ 40 ∷ 3 ∷ 10 ∷ 60 ∷ 1 ∷ 4 ∷ U ∷
          40 ∷ 50 ∷ 4 ∷ 40 ∷ 50 ∷ U ∷ U ∷ 4 ∷
          45 ∷ 60 ∷ 5 ∷ 40 ∷ 60 ∷ 3 ∷ U ∷ 2 ∷
          25 ∷ 30 ∷ 6 ∷ 25 ∷ 30 ∷ U ∷ U ∷ 1 ∷ [];
    }) ∷
    -- and one under a red node without an uncle: its parent comes up over the grandparent
    insert store_a' (entry 5 6 6) gives inserted (record { no = 0; slot = 5; map = map_at 6 2 2; reach = 2 }) (record {
      tree = node (node (only 5) 0 (only 1)) 2 (node (only 3) 4 leaf);
      bytes = colours 42;
      h = 3;
      words =
          10 ∷ 20 ∷ 1 ∷ 5 ∷ 30 ∷ 5 ∷ 1 ∷ 2 ∷
          10 ∷ 30 ∷ 2 ∷ 10 ∷ 30 ∷ U ∷ U ∷ 0 ∷
          25 ∷ 40 ∷ 3 ∷ 5 ∷ 60 ∷ 0 ∷ 4 ∷ U ∷
          40 ∷ 50 ∷ 4 ∷ 40 ∷ 50 ∷ U ∷ U ∷ 4 ∷
          45 ∷ 60 ∷ 5 ∷ 40 ∷ 60 ∷ 3 ∷ U ∷ 2 ∷
          5 ∷ 6 ∷ 6 ∷ 5 ∷ 6 ∷ U ∷ U ∷ 0 ∷ [];
    }) ∷
    -- "Its colour bit keeps what the repair left in it": the emptied slot 5 was red, and its bit
    -- stays 1
    remove (store_a' plus entry 25 30 6) 5 gives removed (record { no = 0; value = 6; map = map_at 5 2 3; pairs = moved []; reach = 0 }) (colours 41) ∷
    -- document 02, item 8: "0 means the output's length, so 9 cannot occur for it"; it stops at the
    -- third hit, which is the root, and comes to the end where there is a place more than there are
    -- hits
    drain store_a Unbounded Unbounded (fresh 2) 0 (7 ∷ 7 ∷ 7 ∷ []) gives
    drained (record { no = 0; hits = 3; entered = 3; next = held 2 1 1 }) (0 ∷ 1 ∷ 2 ∷ []) ∷
    drain store_a Unbounded Unbounded (fresh 2) 0 (replicate 6 7) gives
    drained (record { no = 0; hits = 5; entered = 5; next = ended }) (from 0 5 ++ (7 ∷ [])) ∷
    -- "An output of length 0 gets no hits and its cursor back unmoved."
    drain store_a Unbounded Unbounded (fresh 2) 0 [] gives drained (record { no = 0; hits = 0; entered = 0; next = fresh 2 }) [] ∷
    drain store_a Unbounded Unbounded (held 1 2 6) 0 [] gives drained (record { no = 0; hits = 0; entered = 0; next = held 1 2 6 }) [] ∷
    -- "a lookup with 70 hits looked complete": with 65 hits 0 hands out all of them; 64 stops at
    -- the 64th, in slot 63, as 0 did before
    drain store_c Unbounded Unbounded (fresh 32) 0 (replicate 66 7) gives
    drained (record { no = 0; hits = 65; entered = 65; next = ended }) (from 0 65 ++ (7 ∷ [])) ∷
    drain store_c Unbounded Unbounded (fresh 32) 64 (replicate 66 7) gives
    drained (record { no = 0; hits = 64; entered = 64; next = held 63 5 511 }) (from 0 64 ++ (7 ∷ 7 ∷ [])) ∷
    -- document 02, item 11: "With Excluded 5 as lower bound, [3,6) is reported", by rule 1 and not
    -- by rule 2; "entered nodes and the touching count stay as they are under both"
    ruled lone 1 (Excluded 5) Unbounded gives
    found (record { steps = hit 0 entering 1 ∷ end entering 0 ∷ []; hits = 0 ∷ []; entered = 1 }) (record { t = 1; bound = 1 }) ∷
    ruled lone 2 (Excluded 5) Unbounded gives found (record { steps = end entering 1 ∷ []; hits = []; entered = 1 }) (record { t = 1; bound = 1 }) ∷
    ruled lone 2 (Excluded 4) Unbounded gives
    found (record { steps = hit 0 entering 1 ∷ end entering 0 ∷ []; hits = 0 ∷ []; entered = 1 }) (record { t = 1; bound = 1 }) ∷
    -- "Excluded at the greatest address as lower bound leaves nothing"; no whole address lies
    -- between 4 and 5; and 3 is no rule
    ruled lone 2 (Excluded 18446744073709551615) Unbounded gives
    found (record { steps = refused (refusal_number BadRange) entering 0 ∷ []; hits = []; entered = 0 }) (record { t = 0; bound = 1 }) ∷
    ruled lone 2 (Excluded 4) (Excluded 5) gives
    found (record { steps = refused (refusal_number BadRange) entering 0 ∷ []; hits = []; entered = 0 }) (record { t = 1; bound = 1 }) ∷
    ruled lone 3 (Included 4) (Included 5) gives
    found (record { steps = refused (refusal_number BadRange) entering 0 ∷ []; hits = []; entered = 0 }) (record { t = 1; bound = 1 }) ∷
    -- document 02, item 5: the plain lookup goes through all five entries, and has the one hit that
    -- the pruned one has
    plain store_a (Overlap (span (Included 20) (Excluded 25))) (7 ∷ 7 ∷ 7 ∷ 7 ∷ 7 ∷ 7 ∷ []) gives
    looked (record { no = 0; hits = 1; entered = 5 }) (1 ∷ 7 ∷ 7 ∷ 7 ∷ 7 ∷ 7 ∷ []) ∷
    -- three equal entries, in tree order; and 9, "where the output is shorter than the map's
    -- count", though no entry is equal
    plain store_b (Exact (5 until 9)) (7 ∷ 7 ∷ 7 ∷ []) gives looked (record { no = 0; hits = 3; entered = 3 }) (0 ∷ 1 ∷ 2 ∷ []) ∷
    plain store_b (Exact (5 until 8)) (7 ∷ 7 ∷ []) gives looked (record { no = refusal_number ShortOutput; hits = 0; entered = 0 }) (7 ∷ 7 ∷ []) ∷
    -- the fast lookup finds the same, and enters fewer nodes: "Included 20, Excluded 25" two where
    -- a drain enters three, "Included 60, Excluded 70" one where it enters two
    find_all_lem store_a (Overlap (span (Included 20) (Excluded 25))) (7 ∷ 7 ∷ []) gives looked (record { no = 0; hits = 1; entered = 2 }) (1 ∷ 7 ∷ []) ∷
    find_all_lem store_a (Overlap (span (Included 60) (Excluded 70))) (7 ∷ []) gives looked (record { no = 0; hits = 0; entered = 1 }) (7 ∷ []) ∷
    -- an entry that starts at an Included upper bound is found
    find_all_lem store_a (Overlap (span (Excluded 20) (Included 25))) (7 ∷ 7 ∷ []) gives looked (record { no = 0; hits = 2; entered = 2 }) (1 ∷ 2 ∷ []) ∷
    -- one that ends at the lower bound touches it, and is not found; here all three do
    find_all_lem store_b (Overlap (span (Included 9) (Included 9))) (7 ∷ []) gives looked (record { no = 0; hits = 0; entered = 1 }) (7 ∷ []) ∷
    -- hits past a short output are counted and not written
    find_all_lem store_a (Overlap (span Unbounded Unbounded)) (7 ∷ 7 ∷ []) gives looked (record { no = 0; hits = 5; entered = 5 }) (0 ∷ 1 ∷ []) ∷
    -- equal entries, in tree order; and none, where nothing is entered
    find_all_lem store_b (Exact (5 until 9)) (7 ∷ 7 ∷ 7 ∷ []) gives looked (record { no = 0; hits = 3; entered = 3 }) (0 ∷ 1 ∷ 2 ∷ []) ∷
    find_all_lem store_b (Exact (5 until 8)) (7 ∷ []) gives looked (record { no = 0; hits = 0; entered = 0 }) (7 ∷ []) ∷
    -- document 02, item 4: a ticket of slot 2, read at once
    read store_a (ticket_of store_a.map 2) gives given (record { no = 0; entry = entry 25 40 3 }) ∷
    -- "at least 1 .. changes have come since": after a removal, though slot 2 still holds that
    -- entry
    read (store_a minus 1) (ticket_of store_a.map 2) gives given (record { no = refusal_number Stale; entry = entry 0 0 0 }) ∷
    read (store_a minus 1) (ticket_of (store_a minus 1).map 2) gives given (record { no = 0; entry = entry 25 40 3 }) ∷
    -- "11 Stale, after 2 and before 3": slot 4 is no longer there
    read (store_a minus 1) (ticket_of store_a.map 4) gives given (record { no = refusal_number Stale; entry = entry 0 0 0 }) ∷
    read (store_a minus 1) (ticket_of (store_a minus 1).map 4) gives given (record { no = refusal_number NoSuch; entry = entry 0 0 0 }) ∷
    -- "a refusal leaves the version"
    read (store_a minus 5) (ticket_of store_a.map 2) gives given (record { no = 0; entry = entry 25 40 3 }) ∷
    -- two maps that were made from one copy: slot 0 holds [10,20) 1 in the one and [45,60) 5 in the
    -- other, and the ticket of the one passes in the other
    read (store_a minus 1) (ticket_of (store_a minus 2).map 0) gives given (record { no = 0; entry = entry 45 60 5 }) ∷
    -- "at its top it runs round to 0"
    remove (store_a at 4294967295) 4 gives removed (record { no = 0; value = 5; map = map_at 4 2 0; pairs = moved []; reach = 2 }) (colours 1) ∷
    read (store_a at 4294967295 minus 4) (ticket_of (store_a at 4294967295).map 2) gives given (record { no = refusal_number Stale; entry = entry 0 0 0 }) ∷
    -- document 02, item 6: "five entries take 225 bytes", and "9 for a short output"
    write store_a 225 gives saved (record { no = 0; length = 225 }) ∷
    write store_a 224 gives saved (record { no = refusal_number ShortOutput; length = 0 }) ∷
    -- "reading what was written gives the same map but for its version, .. all else in the target
    -- staying": in the place of a map of version 6, with a word and three bits more than there are
    -- entries
    reload store_a (map_at 0 U 6) (replicate 41 7) (246 ∷ []) gives
    loaded (record { no = 0; map = map_at 5 2 7 }) (store_a.words ++ (7 ∷ [])) (233 ∷ []) ∷
    -- document 02, item 7: "the number of entries holding an address and the value of the k-th in
    -- tree order", "3 where k, counted from 0, is too large"
    ask store_a 12 1 gives hosted 2 2 0 ∷
    ask store_a 12 2 gives hosted 2 0 (refusal_number NoSuch) ∷
    -- document 02, item 10: "a point lookup that goes left below the start, right at or past the
    -- end"; "14 NotDisjoint"
    point store_d 19 gives pointed (record { no = 0; slot = 0; entered = 2 }) ∷
    point store_d 30 gives pointed (record { no = 0; slot = U; entered = 1 }) ∷
    point store_a 19 gives pointed (record { no = refusal_number NotDisjoint; slot = U; entered = 0 }) ∷
    -- "one may end where the next starts"; "refused exactly if some stored entry intersects the new
    -- one, and names the first such slot in tree order"
    place store_d (entry 5 10 3) gives placed (record { no = 0; slot = 2; map = map_at 3 0 2; reach = 2 }) ∷
    place store_d (entry 15 25 3) gives placed (record { no = refusal_number Overlapping; slot = 0; map = map_at 2 1 1; reach = 0 }) ∷
    -- document 02, item 12: "links (left in the lowest bits, then right, then parent, top 16 bits
    -- 0)", "16 bits each with 65535 as undefined"
    sixes six_a gives holds store_a.words ∷
    -- and a removal there: the emptied slot's three links in one word
    remove store_a₆ 4 gives removed (record { no = 0; value = 5; map = map_at 4 2 2; pairs = moved []; reach = 2 }) (colours 1) ∷
    slot (store_a₆ minus 4) 4 gives holds (as_eight true (0 ∷ 0 ∷ 0 ∷ 0 ∷ 0 ∷ 281474976710655 ∷ [])) ∷
    -- document 02, item 13: "Remove the first intersecting entry in tree order, over and over,
    -- until none is left; answer how many went." One goes, as by remove 1; two go; none does,
    -- though [45,60) touches the range
    unload store_a 1 (Included 20) (Excluded 25) gives unloaded (record { no = 0; gone = 1; map = map_at 4 2 2 }) (colours 8) ∷
    unload store_a 1 (Excluded 20) (Included 25) gives unloaded (record { no = 0; gone = 2; map = map_at 3 2 3 }) (colours 8) ∷
    unload store_a 1 (Included 60) (Excluded 70) gives unloaded (record { no = 0; gone = 0; map = map_at 5 2 1 }) (colours 9) ∷
    -- "The version rises by the number removed", past its top too
    unload (store_a at 4294967294) 1 Unbounded Unbounded gives unloaded (record { no = 0; gone = 5; map = map_at 0 U 3 }) (colours 0) ∷
    -- by rule 2 [3,6) stays; and 3 is no rule
    unload lone 2 (Excluded 5) Unbounded gives unloaded (record { no = 0; gone = 0; map = map_at 1 0 1 }) (colours 0) ∷
    unload lone 3 Unbounded Unbounded gives unloaded (record { no = refusal_number BadRange; gone = 0; map = map_at 1 0 1 }) (colours 0) ∷
    -- document 02, item 14: "a new slot for each old one: its place in tree order"; a place past
    -- the count stays
    propose (store_a minus 1) (7 ∷ 7 ∷ 7 ∷ 7 ∷ 7 ∷ []) gives proposed 0 (3 ∷ 0 ∷ 1 ∷ 2 ∷ 7 ∷ []) ∷
    -- "every node moves with its colour and links, tree order and shape staying. The version rises
    -- by one"
    renumber (store_a minus 1) (3 ∷ 0 ∷ 1 ∷ 2 ∷ []) gives renumbered (record { no = 0; map = map_at 4 1 3 }) tidy_a (colours 4) ∷
    -- "Proposing again on a tidied map proposes no move"
    propose (store_a minus 1 by (3 ∷ 0 ∷ 1 ∷ 2 ∷ [])) (7 ∷ 7 ∷ 7 ∷ 7 ∷ []) gives proposed 0 (0 ∷ 1 ∷ 2 ∷ 3 ∷ []) ∷
    -- "15 BadPlan .. for any other proposal": slot 3 twice; and "9 (short output)"
    renumber store_a (0 ∷ 1 ∷ 2 ∷ 3 ∷ 3 ∷ []) gives renumbered (record { no = refusal_number BadPlan; map = map_at 5 2 1 }) store_a.words (colours 9) ∷
    propose store_a (7 ∷ 7 ∷ 7 ∷ 7 ∷ []) gives proposed (refusal_number ShortOutput) (7 ∷ 7 ∷ 7 ∷ 7 ∷ []) ∷
    []
