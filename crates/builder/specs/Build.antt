-- "Entry k goes to slot k. A span [a, b) has its root at a + (b - a) div 2, and the two halves
-- around it are built the same way, each in its own part of the node words." In each rule f is the
-- number of levels that are left for the span; the last is red.
-- Letters: W words, C colours, n count, S triples, a start of the span, b end of the span, f levels
--   left for the span, d interval to extend, e entry, h hull, p parent, w words of the span,
--   m number, g bound of the answer
use Rattle.std.specs.Prelude.{◌≡◌, cond, List, [], ◌∷◌, ◌++◌, ℕ, zero, suc, ◌+◌, ◌-◌, ◌*◌, ◌/◌, ◌^◌, ◌<◌, ◌≤◌, length, drop, eqb, leb}
use Rattle.words.specs.Ix.{U}
use Rattle.words.specs.Intervals.{extended}
use Rattle.words.specs.Nodes.{put_node_lem, HoldsBits, words_of}
use Rattle.words.specs.declared.interval.Interval.{Interval}
use Rattle.words.specs.declared.node.Entry.{Entry}
use Rattle.bitvec.specs.Colours.{paint}
use Rattle.builder.specs.Input.{interval_of_lem, entry_of}

-- the root of the span [a, b)
abbrev pub center : (start end : ℕ) → ℕ
center a b = a + (b - a) / 2

-- the link to it, U where the span is empty
abbrev pub root_of_lem : (start end : ℕ) → ℕ
root_of_lem a b = cond (leb b a) U (center a b)

-- the interval d, extended by those of the span
unfoldable pub span_hull : (triples : List ℕ) (levels start end : ℕ) (interval : Interval) → Interval
span_hull S zero a b d = d
span_hull S (suc f) a b d =
    cond (leb b a) d
    (extended d (span_hull S f (center a b + 1) b (span_hull S f a (center a b) (interval_of_lem S (center a b)))))

-- the hull of the root of a span, with f levels below it: its own interval, extended by those of
-- the two halves
abbrev pub root_hull : (triples : List ℕ) (levels start end : ℕ) → Interval
root_hull S f a b = span_hull S f (center a b + 1) b (span_hull S f a (center a b) (interval_of_lem S (center a b)))

-- the eight words of one node
abbrev pub node_words_lem : (entry : Entry) (hull : Interval) (left right up : ℕ) → List ℕ
node_words_lem e h left right up = put_node_lem (0 ∷ 0 ∷ 0 ∷ 0 ∷ 0 ∷ 0 ∷ 0 ∷ 0 ∷ []) 0 e h left right up

-- the words of the root of a span below the parent p
abbrev pub root_words : (triples : List ℕ) (levels start end parent : ℕ) → List ℕ
root_words S f a b p =
    node_words_lem (entry_of S (center a b)) (root_hull S f a b) (root_of_lem a (center a b)) (root_of_lem (center a b + 1) b) p

-- the words of a span below the parent p: the left half, the root, the right half
unfoldable pub span_words : (triples : List ℕ) (levels start end parent : ℕ) → List ℕ
span_words S zero a b p = []
span_words S (suc f) a b p =
    cond (leb b a) []
    (span_words S f a (center a b) (center a b) ++ (root_words S f a b p ++ span_words S f (center a b + 1) b (center a b)))

-- the colours with those of a span written
unfoldable pub painted : (levels : ℕ) (colours : List ℕ) (start end : ℕ) → List ℕ
painted zero C a b = C
painted (suc f) C a b =
    cond (leb b a) C (painted f (painted f (paint C (center a b) (eqb f 0)) a (center a b)) (center a b + 1) b)

-- the greatest D such that 2 ^ D ≤ m, for 0 < m < 2 ^ (g + 1)
unfoldable pub log : (bound number : ℕ) → ℕ
log zero m = 0
log (suc g) m = cond (leb m 1) 0 (suc (log g (m / 2)))

-- "With D the greatest number such that 2^D <= n + 1, nodes at depth above D are red": D levels,
-- and the red one
unfoldable pub levels : (count : ℕ) → ℕ
levels n = suc (log 16 (n + 1))

-- The store of the first n triples of S, in the words W and the colours C: "Slots and colour bits
-- from n up keep their state."
unfoldable pub build_words : (triples : List ℕ) (count : ℕ) (words : List ℕ) → List ℕ
build_words S n W = span_words S (levels n) 0 n U ++ drop (words_of n) W

unfoldable pub build_colours : (count : ℕ) (colours : List ℕ) → List ℕ
build_colours n C = painted (levels n) C 0 n

unfoldable pub build_root : (count : ℕ) → ℕ
build_root n = root_of_lem 0 n

-- What is lent for the span [a, b): its triples, the words w of its nodes and no others, bytes with
-- its colour bits. Its nodes are few enough for f levels.
pub record Lent (S w C : List ℕ) (a b f : ℕ) : Type 0 where
  pub triples : b * 3 ≤ length S
  pub words : length w ≡ words_of (b - a)
  pub bits : HoldsBits C b
  pub few : b - a < 2 ^ f
