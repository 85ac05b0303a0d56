-- What happens in a walk, in order, read off the list of its states: the nodes entered and the
-- hits.
use mathlib.Core.Bool.{cond}
use mathlib.Core.List.{List, [], ◌∷◌, ◌++◌}
use Prim.Native.Nat.{ℕ, zero, suc}
use lib.Dec.{ltb}
use Rattle.iter.specs.Walk.{Rules, move, enters, hits}
use Rattle.iter.specs.declared.Cursor.{Cursor}

-- a slot is entered; a hit, with its cursor; the end
pub data Event : Type 0 where
  enter : ℕ → Event
  found : Cursor → Event
  done : Event

-- what a state tells
unfoldable pub told : ℕ → Rules → Cursor → List Event
told n Q c = cond (enters n c) (enter c.slot ∷ []) (cond (hits n Q c) (found c ∷ []) [])

-- what the states after c tell, to the end
unfoldable pub events : List ℕ → ℕ → Rules → ℕ → Cursor → List Event
events W n Q zero c = []
events W n Q (suc fuel) c =
    let r : List Event = told n Q (move W Q c) ++ events W n Q fuel (move W Q c) in
    cond (ltb c.slot n) r (done ∷ [])

-- the slots of the hits, and the nodes entered, up to the end
abbrev pub hit_slots : List Event → List ℕ
hit_slots [] = []
hit_slots (enter s ∷ l) = hit_slots l
hit_slots (found c ∷ l) = c.slot ∷ hit_slots l
hit_slots (done ∷ l) = []

abbrev pub nodes : List Event → List ℕ
nodes [] = []
nodes (enter s ∷ l) = s ∷ nodes l
nodes (found c ∷ l) = nodes l
nodes (done ∷ l) = []
