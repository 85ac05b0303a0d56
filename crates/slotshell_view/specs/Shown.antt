-- What is shown of a map, read from an image of its store, is the store's own.
-- Letters: W words, C colours, n count, r root, I image (its bytes), s slot, b side (true: left),
--   x interval asked for, q query or range, t tree
use Rattle.std.specs.Prelude.{◌≡◌, Bool, List, [], ℕ, ◌<◌, ◌≤◌, length, take}
use Rattle.words.specs.Ix.{U}
use Rattle.words.specs.Nodes.{kid, par, hull, entry}
use Rattle.words.specs.declared.interval.Interval.{Interval}
use Rattle.words.specs.declared.interval.Span.{Span}
use Rattle.bitvec.specs.Colours.{red}
use Rattle.tree.specs.Tree.{Tree, node, height}
use Rattle.tree.specs.Zipper.{Frame, plug}
use Rattle.iter.specs.Queries.{rules}
use Rattle.iter.specs.declared.rules.Query.{Query}
use Rattle.iter.specs.declared.rules.Query.TheVariants.{Overlap, Ruled, Exact}
use Rattle.iter_laws.specs.Entered.{entered, overlap_rule, exact_rule, touching}
use Rattle.slotshell_view.specs.View.{Trail, entry_shown, child_shown, parent_shown, red_shown, hull_shown, height_shown, touching_shown, goes_shown, trail_shown}

-- the slots of a trail
abbrev pub noticed : (trail : Trail) → List ℕ
noticed trail = take trail.taken trail.list

-- The image I is that of the words W and the colours C of a store that passes, with the count n,
-- the root r and the tree t.
pub record Shown (I W C : List ℕ) (n r : ℕ) (t : Tree) : Type 0 where
  -- each node's entry, links and colour
  pub entry_is : (s : ℕ) → s < n → entry_shown I n s ≡ entry W s
  pub child_is : (b : Bool) (s : ℕ) → s < n → child_shown I n b s ≡ kid W b s
  pub parent_is : (s : ℕ) → s < n → parent_shown I n s ≡ par W s
  pub red_is : (s : ℕ) → s < n → red_shown I n s ≡ red C s
  -- its hull, which an image does not have
  pub hull_is : (s : ℕ) → s < n → hull_shown I n s ≡ hull W s
  -- the turns that a lookup takes at it
  pub goes_is : (q : Query) (b : Bool) (s : ℕ) → s < n → goes_shown I n q b s ≡ (rules W n q).go b s
  -- the nodes that an overlap lookup enters, in its order, into an output that has a place for each
  -- slot
  pub overlap_trail : (q : Span) (out : List ℕ) → n ≤ length out
      → noticed (trail_shown I n (Overlap q) r out) ≡ entered (overlap_rule W q) t
  pub ruled_trail : (rule : ℕ) (q : Span) (out : List ℕ) → n ≤ length out
      → noticed (trail_shown I n (Ruled rule q) r out) ≡ entered (overlap_rule W q) t
  -- those that an exact lookup enters from the slot where it starts, at any place of the tree
  pub exact_trail : (x : Interval) (way : List Frame) (left : Tree) (slot : ℕ) (right : Tree) (out : List ℕ)
      → plug way (node left slot right) ≡ t → n ≤ length out
      → noticed (trail_shown I n (Exact x) slot out) ≡ entered (exact_rule W x) (node left slot right)
  -- none, from the link U
  pub none_trail : (q : Query) (out : List ℕ) → noticed (trail_shown I n q U out) ≡ []
  -- the height, and the number of the entries that meet or touch a range
  pub height_is : height_shown I n r ≡ height t
  pub touching_is : (q : Span) → touching_shown I n q r ≡ touching W q t
