-- "Entered nodes": said of the tree, with no walk. The rule E tells whether the child a on the side
-- b of an entered node s is entered.
-- Letters: W words, q range, x interval asked for, b side (true: left), s slot, a child of s,
--   E rule of entry, c way up, t tree, r right subtree, l left subtree
use Rattle.std.specs.Prelude.{Bool, true, false, ◌&&◌, List, [], ◌∷◌, ◌++◌, ℕ, length}
use Rattle.words.specs.Nodes.{lo, hi, interval, hull}
use Rattle.words.specs.Intervals.{reached, admits, touches, contains}
use Rattle.words.specs.Lists.{filter}
use Rattle.words.specs.declared.interval.Interval.{Interval}
use Rattle.words.specs.declared.interval.Span.{Span}
use Rattle.tree.specs.Tree.{Tree, leaf, node, slots}
use Rattle.tree.specs.Zipper.{Frame, frame}
use Rattle.iter.specs.Exact.{toward}
use Rattle.iter.specs.Lists.{when}

-- "the left child of an entered node if the child's hull end >= lo (Included and Excluded alike) or
-- lo is Unbounded; the right child if its hull start is <= hi, < hi, or hi is Unbounded, in that
-- order of kinds"
abbrev pub overlap_rule : (words : List ℕ) (range : Span) (side : Bool) (slot child : ℕ) → Bool
overlap_rule W q true s a = reached q.lo (hi W a)
overlap_rule W q false s a = admits q.hi (lo W a)

-- "It goes left if query <= node and the left hull contains the query (hull start <= start, end <=
-- hull end), right with >="
abbrev pub exact_rule : (words : List ℕ) (interval : Interval) (side : Bool) (slot child : ℕ) → Bool
exact_rule W x b s a = toward W x b s && contains (hull W a) x

-- the subtree on the side b of an entered node s is gone into
abbrev pub goes : (rule : (side : Bool) (slot child : ℕ) → Bool) (side : Bool) (slot : ℕ)
    (tree : Tree) → Bool
goes E b s leaf = false
goes E b s (node l a r) = E b s a

-- the nodes entered in a tree, from its root on, in the order in which the walk enters them
abbrev pub entered : (rule : (side : Bool) (slot child : ℕ) → Bool) (tree : Tree) → List ℕ
entered E leaf = []
entered E (node l s r) = s ∷ (when (goes E true s l) (entered E l) ++ when (goes E false s r) (entered E r))

-- "the two child rules run on with its slot and ancestors taken as entered": the nodes entered
-- after a place, from its ancestors
abbrev pub entered_later : (rule : (side : Bool) (slot child : ℕ) → Bool) (way : List Frame) → List ℕ
entered_later E [] = []
entered_later E (frame true s far ∷ c) = when (goes E false s far) (entered E far) ++ entered_later E c
entered_later E (frame false s far ∷ c) = entered_later E c

-- those entered after the held slot s, with the right subtree r
abbrev pub entered_from : (rule : (side : Bool) (slot child : ℕ) → Bool) (slot : ℕ) (right : Tree)
    (way : List Frame) → List ℕ
entered_from E s r c = when (goes E false s r) (entered E r) ++ entered_later E c

-- how many entries of a tree "meet or touch" the range
abbrev pub touching : (words : List ℕ) (range : Span) (tree : Tree) → ℕ
touching W q t = length (filter (λ s. touches q (interval W s)) (slots t))
