-- Public calls one after the other, each on the map that the last one answered.
-- Letters: S state, x call, l triples or calls, k rule, s slot, e entry, q range, c effect,
--   a answer, I image (its bytes)
use Rattle.std.specs.Prelude.{ℕ, ◌+◌, cond, List, [], ◌∷◌, ◌==◌}
use Rattle.words.specs.declared.interval.Span.{Span}
use Rattle.words.specs.declared.node.Entry.{Entry}
use Rattle.iset.specs.Effects.{Effect}
use Rattle.iset.specs.Build.{BuildAnswer, build_call}
use Rattle.iset.specs.Remove.{RemoveAnswer, open_remove_call, remove_call}
use Rattle.iset.specs.Insert.{InsertAnswer, open_insert_call, insert_call}
use Rattle.iset.specs.Image.{read_image_call}
use Rattle.iset.specs.Tidy.{RenumberAnswer, open_renumber_call, renumber_call}
use Rattle.iset.specs.Unload.{UnloadAnswer, open_unload_call, unload_call}
use Rattle.iset.specs.declared.Map.{Map}

-- the calls that write the store: of any list, any slot, any entry, any image, any range by any
-- rule, any plan
pub data Call : Type 0 where
  build : (triples : List ℕ) → Call
  remove : (slot : ℕ) → Call
  insert : (entry : Entry) → Call
  read : (image : List ℕ) → Call
  unload : (rule : ℕ) (range : Span) → Call
  renumber : (plan : List ℕ) → Call

-- a map with the words and the colours that it stands in
pub record State : Type 0 where
  pub map : Map
  pub words : List ℕ
  pub colours : List ℕ

-- the map that a call answers, with what it leaves
abbrev pub left : {A : Type 0} → (map : A → Map) (effect : Effect A) → State
left map c = record { map = map c.answer; words = c.words; colours = c.colours }

abbrev pub built : (effect : Effect BuildAnswer) → State
built = left (λ (a : BuildAnswer). a.map)

abbrev pub removed : (effect : Effect RemoveAnswer) → State
removed = left (λ (a : RemoveAnswer). a.map)

abbrev pub inserted : (effect : Effect InsertAnswer) → State
inserted = left (λ (a : InsertAnswer). a.map)

abbrev pub unloaded : (effect : Effect UnloadAnswer) → State
unloaded = left (λ (a : UnloadAnswer). a.map)

abbrev pub renumbered : (effect : Effect RenumberAnswer) → State
renumbered = left (λ (a : RenumberAnswer). a.map)

-- after a call, refused or not
abbrev pub answered : (state : State) (call : Call) → State
answered S (build l) = built (build_call S.map S.words S.colours l)
answered S (remove s) = removed (remove_call S.map S.words S.colours s)
answered S (insert e) = inserted (insert_call S.map S.words S.colours e)
answered S (read I) = built (read_image_call S.map S.words S.colours I)
answered S (unload k q) = unloaded (unload_call S.map S.words S.colours k q)
answered S (renumber plan) = renumbered (renumber_call S.map S.words S.colours plan)

abbrev pub all_answered : (state : State) (calls : List Call) → State
all_answered S [] = S
all_answered S (x ∷ l) = all_answered (answered S x) l

-- the refusal's number of a call, 0 for none
abbrev pub refusal_of : (state : State) (call : Call) → ℕ
refusal_of S (build l) = (build_call S.map S.words S.colours l).answer.no
refusal_of S (remove s) = (remove_call S.map S.words S.colours s).answer.no
refusal_of S (insert e) = (insert_call S.map S.words S.colours e).answer.no
refusal_of S (read I) = (read_image_call S.map S.words S.colours I).answer.no
refusal_of S (unload k q) = (unload_call S.map S.words S.colours k q).answer.no
refusal_of S (renumber plan) = (renumber_call S.map S.words S.colours plan).answer.no

-- how many changes of the map a call made: one if it was not refused; and document 02, item 13:
-- "The version rises by the number removed, and each of them counts as a change"
abbrev pub once : (number : ℕ) → ℕ
once number = cond (number == 0) 1 0

abbrev pub changes_of : (state : State) (call : Call) → ℕ
changes_of S (build l) = once (refusal_of S (build l))
changes_of S (remove s) = once (refusal_of S (remove s))
changes_of S (insert e) = once (refusal_of S (insert e))
changes_of S (read I) = once (refusal_of S (read I))
changes_of S (unload k q) = (unload_call S.map S.words S.colours k q).answer.gone
changes_of S (renumber plan) = once (refusal_of S (renumber plan))

-- and how many the calls of a list made
abbrev pub made : (state : State) (calls : List Call) → ℕ
made S [] = 0
made S (x ∷ l) = changes_of S x + made (answered S x) l

-- the same by the opened calls, which do not run the check; a build and a reading have none
abbrev pub open_answered : (state : State) (call : Call) → State
open_answered S (build l) = answered S (build l)
open_answered S (remove s) = removed (open_remove_call S.map S.words S.colours s)
open_answered S (insert e) = inserted (open_insert_call S.map S.words S.colours e)
open_answered S (read I) = answered S (read I)
open_answered S (unload k q) = unloaded (open_unload_call S.map S.words S.colours k q)
open_answered S (renumber plan) = renumbered (open_renumber_call S.map S.words S.colours plan)

abbrev pub all_open_answered : (state : State) (calls : List Call) → State
all_open_answered S [] = S
all_open_answered S (x ∷ l) = all_open_answered (open_answered S x) l
