-- What happens in a walk through a tree, in order, said of the tree alone.
use mathlib.Core.Path.{◌≡◌}
use mathlib.Core.Bool.{Bool, true, false, cond}
use mathlib.Core.List.{List, [], ◌∷◌, ◌++◌}
use Prim.Native.Nat.{ℕ, suc, ◌+◌, ◌<◌}
use Rattle.words.specs.Nodes.{kid}
use Rattle.tree.specs.Tree.{Tree, leaf, node, occ}
use Rattle.tree.specs.Zipper.{Frame, frame}
use Rattle.iter.specs.Lists.{when}
use Rattle.iter.specs.Walk.{Rules}
use Rattle.iter.proofs.Events.{Event, enter, found}
use Rattle.iter_laws.specs.Place.{held, sides}

-- the walk goes only where there is a child
abbrev pub Linked : List ℕ → ℕ → Rules → Type 0
Linked W n Q = (b : Bool) (s : ℕ) → Q.go b s ≡ true → kid W b s < n

-- From here of a tree whose root is entered: the nodes entered, the hits, all events, the number of
-- moves.
abbrev pub visits : Rules → Tree → List ℕ
visits Q leaf = []
visits Q (node l s r) = s ∷ (when (Q.go true s) (visits Q l) ++ when (Q.go false s) (visits Q r))

abbrev pub finds : Rules → Tree → List ℕ
finds Q leaf = []
finds Q (node l s r) = when (Q.go true s) (finds Q l) ++ (when (Q.match s) (s ∷ []) ++ when (Q.go false s) (finds Q r))

abbrev pub script : Rules → List Bool → Tree → List Event
script Q bs leaf = []
script Q bs (node l s r) =
    enter s ∷ (when (Q.go true s) (script Q (true ∷ bs) l)
    ++ (when (Q.match s) (found (held s bs) ∷ []) ++ when (Q.go false s) (script Q (false ∷ bs) r)))

abbrev pub moves : Rules → Tree → ℕ
moves Q leaf = 0
moves Q (node l s r) = cond (Q.go true s) (moves Q l) 0 + cond (Q.go false s) (suc (moves Q r)) 0 + 3

-- The same after a place.
abbrev pub later_visits : Rules → List Frame → List ℕ
later_visits Q [] = []
later_visits Q (frame true s far ∷ c) = when (Q.go false s) (visits Q far) ++ later_visits Q c
later_visits Q (frame false s far ∷ c) = later_visits Q c

abbrev pub later_finds : Rules → List Frame → List ℕ
later_finds Q [] = []
later_finds Q (frame true s far ∷ c) = when (Q.match s) (s ∷ []) ++ (when (Q.go false s) (finds Q far) ++ later_finds Q c)
later_finds Q (frame false s far ∷ c) = later_finds Q c

abbrev pub later_script : Rules → List Frame → List Event
later_script Q [] = []
later_script Q (frame true s far ∷ c) =
    when (Q.match s) (found (held s (sides c)) ∷ []) ++ (when (Q.go false s) (script Q (false ∷ sides c) far) ++ later_script Q c)
later_script Q (frame false s far ∷ c) = later_script Q c

abbrev pub later_moves : Rules → List Frame → ℕ
later_moves Q [] = 0
later_moves Q (frame true s far ∷ c) = cond (Q.go false s) (suc (moves Q far)) 0 + 2 + later_moves Q c
later_moves Q (frame false s far ∷ c) = suc (later_moves Q c)

-- no slot of a tree is looked for
abbrev pub Empty : Rules → Tree → Type 0
Empty Q t = (a : ℕ) → 0 < occ a t → Q.match a ≡ false

-- where the walk does not go there is nothing to find
pub record Fair (Q : Rules) (l : Tree) (s : ℕ) (r : Tree) (L R : Type 0) : Type 0 where
  pub no_left : Q.go true s ≡ false → Empty Q l
  pub no_right : Q.go false s ≡ false → Empty Q r
  pub left : L
  pub right : R

abbrev pub Fairs : Rules → Tree → Type 0
Fairs Q leaf = Unit {0}
Fairs Q (node l s r) = Fair Q l s r (Fairs Q l) (Fairs Q r)
