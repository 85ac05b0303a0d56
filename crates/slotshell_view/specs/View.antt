-- What is shown of a map, of any bytes I and any numbers. The bytes are those of an image
-- (docs/IMAGE.md), which has entries, links and colours. Hulls, the height, the walk of a lookup
-- and the number of entries that touch a range follow from these.
-- Letters: n count, I image (its bytes), s slot, b side (true: left) or there, k link or root or
--   from, d otherwise (if the link leads to none), x interval asked for, q range or query, a child
--   of s, h hull, t trail, l list, i taken
use Rattle.std.specs.Prelude.{Bool, true, false, cond, ◌&&◌, List, ℕ, zero, suc, ◌+◌, max, leb, ltb, length, set}
use Rattle.words.specs.Ix.{U, on_link}
use Rattle.words.specs.Intervals.{reached, admits, touches, le, contains, extended}
use Rattle.words.specs.declared.interval.Interval.{Interval}
use Rattle.words.specs.declared.interval.Span.{Span}
use Rattle.words.specs.declared.node.Entry.{Entry}
use Rattle.image_rule.specs.Layout.{image_length_lem}
use Rattle.image_rule.specs.Stored.{entry_in_lem, interval_in_lem, link_in, child_in_lem, red_in_lem}
use Rattle.iter.specs.declared.rules.Query.{Query}
use Rattle.iter.specs.declared.rules.Query.TheVariants.{Overlap, Ruled, Exact}

-- the bytes have the bodies of n slots, and s is one of them
abbrev pub shows : (image : List ℕ) (count slot : ℕ) → Bool
shows I n s = ltb s n && (leb n 65535 && leb (image_length_lem n) (length I))

abbrev pub entry_shown : (image : List ℕ) (count slot : ℕ) → Entry
entry_shown I n s = cond (shows I n s) (entry_in_lem I s) (record { start = 0; end = 0; value = 0 })

abbrev pub child_shown : (image : List ℕ) (count : ℕ) (side : Bool) (slot : ℕ) → ℕ
child_shown I n b s = cond (shows I n s) (child_in_lem I n b s) U

abbrev pub parent_shown : (image : List ℕ) (count slot : ℕ) → ℕ
parent_shown I n s = cond (shows I n s) (link_in I n s 2) U

abbrev pub red_shown : (image : List ℕ) (count slot : ℕ) → Bool
red_shown I n s = cond (shows I n s) (red_in_lem I n s) false

-- "each hull is the least start and greatest end in its subtree": the hull of the subtree at the
-- link k, of at most `height` levels
unfoldable pub hull_below_lem : (image : List ℕ) (count height link : ℕ) (otherwise : Interval)
    → Interval
hull_below_lem I n zero k d = d
hull_below_lem I n (suc height) k d =
    on_link n k
    (λ s. extended (extended (interval_in_lem I s) (hull_below_lem I n height (child_in_lem I n true s) (interval_in_lem I s))) (hull_below_lem I n height (child_in_lem I n false s) (interval_in_lem I s)))
    d

-- no tree of a map is higher than 32
abbrev pub hull_in_lem : (image : List ℕ) (count slot : ℕ) → Interval
hull_in_lem I n s = hull_below_lem I n 32 s (interval_in_lem I s)

abbrev pub hull_shown : (image : List ℕ) (count slot : ℕ) → Interval
hull_shown I n s = cond (shows I n s) (hull_in_lem I n s) (record { start = 0; end = 0 })

-- the nodes on the longest way down from the link k
unfoldable pub height_below_lem : (image : List ℕ) (count height link : ℕ) → ℕ
height_below_lem I n zero k = 0
height_below_lem I n (suc height) k =
    on_link n k (λ s. suc (max (height_below_lem I n height (child_in_lem I n true s)) (height_below_lem I n height (child_in_lem I n false s)))) 0

abbrev pub height_shown : (image : List ℕ) (count root : ℕ) → ℕ
height_shown I n k = cond (shows I n k) (height_below_lem I n 32 k) 0

-- the entries below the link k that meet or touch a range
abbrev pub one : (there : Bool) → ℕ
one b = cond b 1 0

unfoldable pub touching_below_lem : (image : List ℕ) (count : ℕ) (range : Span) (height link : ℕ) → ℕ
touching_below_lem I n q zero k = 0
touching_below_lem I n q (suc height) k =
    on_link n k
    (λ s. touching_below_lem I n q height (child_in_lem I n true s) + (one (touches q (interval_in_lem I s)) + touching_below_lem I n q height (child_in_lem I n false s)))
    0

abbrev pub touching_shown : (image : List ℕ) (count : ℕ) (range : Span) (root : ℕ) → ℕ
touching_shown I n q k = cond (shows I n k) (touching_below_lem I n q 32 k) 0

-- "the left child of an entered node if the child's hull end >= lo (Included and Excluded alike) or
-- lo is Unbounded; the right child if its hull start is <= hi, < hi, or hi is Unbounded, in that
-- order of kinds"
abbrev pub opens : (range : Span) (side : Bool) (hull : Interval) → Bool
opens q true h = reached q.lo h.end
opens q false h = admits q.hi h.start

-- "query <= node", and at `false` "with >="
abbrev pub leans : (interval : Interval) (side : Bool) (own : Interval) → Bool
leans x true own = le x own
leans x false own = le own x

-- a walk for the query goes from an entry to its child on a side, with that hull
abbrev pub admitted : (query : Query) (side : Bool) (own hull : Interval) → Bool
admitted (Overlap q) b own h = opens q b h
admitted (Ruled k q) b own h = opens q b h
admitted (Exact x) b own h = leans x b own && contains h x

abbrev pub goes_in_lem : (image : List ℕ) (count : ℕ) (query : Query) (side : Bool) (slot : ℕ) → Bool
goes_in_lem I n q b s = on_link n (child_in_lem I n b s) (λ a. admitted q b (interval_in_lem I s) (hull_in_lem I n a)) false

abbrev pub goes_shown : (image : List ℕ) (count : ℕ) (query : Query) (side : Bool) (slot : ℕ)
    → Bool
goes_shown I n q b s = cond (shows I n s) (goes_in_lem I n q b s) false

-- a list of slots, and how many of its places are taken
pub record Trail : Type 0 where
  pub list : List ℕ
  pub taken : ℕ

abbrev pub trail : (list : List ℕ) (taken : ℕ) → Trail
trail l i = record { list = l; taken = i }

-- one slot more, if there is room
abbrev pub noted : (trail : Trail) (slot : ℕ) → Trail
noted t s = cond (ltb t.taken (length t.list)) (trail (set t.list t.taken s) (suc t.taken)) t

-- the nodes that a walk enters from the link k on, in the order in which it enters them
unfoldable pub trail_below_lem : (image : List ℕ) (count : ℕ) (query : Query) (height link : ℕ)
    (trail : Trail) → Trail
trail_below_lem I n q zero k t = t
trail_below_lem I n q (suc height) k t =
    on_link n k
    (λ s.
    let l : Trail = cond (goes_in_lem I n q true s) (trail_below_lem I n q height (child_in_lem I n true s) (noted t s)) (noted t s) in
    cond (goes_in_lem I n q false s) (trail_below_lem I n q height (child_in_lem I n false s) l) l)
    t

-- on one side of the slot s
abbrev pub trail_beside_lem : (image : List ℕ) (count : ℕ) (query : Query) (height : ℕ) (side : Bool)
    (slot : ℕ) (trail : Trail) → Trail
trail_beside_lem I n q height b s t = cond (goes_in_lem I n q b s) (trail_below_lem I n q height (child_in_lem I n b s) t) t

-- from the link k on, into a list
abbrev pub trail_shown : (image : List ℕ) (count : ℕ) (query : Query) (from : ℕ) (list : List ℕ)
    → Trail
trail_shown I n q k l = cond (shows I n k) (trail_below_lem I n q 32 k (trail l 0)) (trail l 0)
