-- What the code's answers stand for.
-- Letters: W words, n count, r root or root', s slot, b side (true: left), l slots, Q rules of the
--   lookup
use Rattle.std.specs.Prelude.{◌≡◌, Bool, true, List, ℕ, ◌+◌, ◌^◌, ◌≤◌, length}
use Rattle.std.proofs.lemmas.List.Edits.{sets}
use Rattle.words.specs.Nodes.{kid}
use Rattle.words.specs.Lists.{filter}
use Rattle.iter.specs.Lists.{when}
use Rattle.iter.specs.Walk.{Rules}
use Rattle.iter.specs.declared.rules.Query.{Query}
use Rattle.plain.specs.declared.Tally.{Tally}
use Rattle.fast_rule.specs.Fast.{entering, fast_nodes, fast_hits, fitted}

-- how many hits there are, including those that the output has no place for, and how many nodes the
-- lookup entered
abbrev pub tally : (words : List ℕ) (count : ℕ) (query : Query) (root : ℕ) → Tally
tally W n query r = record { hits = length (fast_hits W n query r); entered = length (fast_nodes W n query r) }

-- what the whole lookup answers and leaves in the output
abbrev pub Found : (words : List ℕ) (count : ℕ) (query : Query) (root : ℕ) (root' : Tally)
    (out new : List ℕ) → Type 0
Found W n query root r out new = (r ≡ tally W n query root) × (new ≡ fitted (fast_hits W n query root) out)

-- After the nodes l were entered: the two numbers from those before, and the output from that
-- before. A hit that the output has no place for is counted all the same.
pub record Gone (Q : Rules) (hits entered : ℕ) (l : List ℕ) (r : Tally) (out new : List ℕ) : Type 0 where
  pub found : r.hits ≡ hits + length (filter Q.match l)
  pub seen : r.entered ≡ entered + length l
  pub written : new ≡ sets out hits (filter Q.match l)

-- the nodes entered from the child of slot s on the side b, if the rules go there
unfoldable pub beyond : (words : List ℕ) (rules : Rules) (height : ℕ) (side : Bool) (slot : ℕ)
    → List ℕ
beyond W Q height b s = when (Q.go b s) (entering W Q height (kid W b s))

-- so after the nodes on the left of a slot, and after those from it down
abbrev pub Left : (words : List ℕ) (rules : Rules) (height slot hits entered : ℕ) (root : Tally)
    (out new : List ℕ) → Type 0
Left W Q height slot hits entered r out new = Gone Q hits entered (beyond W Q height true slot) r out new

abbrev pub Down : (words : List ℕ) (rules : Rules) (height slot hits entered : ℕ) (root : Tally)
    (out new : List ℕ) → Type 0
Down W Q height slot hits entered r out new = Gone Q hits entered (entering W Q height slot) r out new

-- The numbers before a way down of at most `height` nodes: fewer than 2 ^ height are entered on it,
-- so fewer than 2 ^ 32 in all, whatever the words are, and no number overflows.
abbrev pub Room : (hits entered height : ℕ) → Type 0
Room hits entered height = (hits ≤ entered) × (entered + 2 ^ height ≤ 4294967296)
