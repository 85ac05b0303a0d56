-- Calls on a disjoint map one after the other, each on the map that the last one answered.
-- Letters: S state, x call, l calls, s slot, e entry
use Rattle.std.specs.Prelude.{List, [], ◌∷◌, ℕ}
use Rattle.words.specs.declared.node.Entry.{Entry}
use Rattle.iset.specs.Remove.{open_remove_call}
use Rattle.iset.specs.Sequence.{State, removed, inserted}
use Rattle.disjoint.specs.Place.{open_place_call, place_call}
use Rattle.disjoint.specs.Take.{take_call}

-- the calls that write the store: of any entry, of any slot
pub data Call : Type 0 where
  insert : (entry : Entry) → Call
  remove : (slot : ℕ) → Call

-- after a call, refused or not
abbrev pub answered : (state : State) (call : Call) → State
answered S (insert e) = inserted (place_call S.map S.words S.colours e)
answered S (remove s) = removed (take_call S.map S.words S.colours s)

abbrev pub all_answered : (state : State) (calls : List Call) → State
all_answered S [] = S
all_answered S (x ∷ l) = all_answered (answered S x) l

-- the same by the opened calls, which do not run the check
abbrev pub open_answered : (state : State) (call : Call) → State
open_answered S (insert e) = inserted (open_place_call S.map S.words S.colours e)
open_answered S (remove s) = removed (open_remove_call S.map S.words S.colours s)

abbrev pub all_open_answered : (state : State) (calls : List Call) → State
all_open_answered S [] = S
all_open_answered S (x ∷ l) = all_open_answered (open_answered S x) l
