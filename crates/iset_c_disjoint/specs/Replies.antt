-- What a caller in another language gets of a call on a disjoint map, in the form of crate iset_c.
-- Letters: m map, W words, C colours, A places of the answer, a answer of the call, R reply,
--   x address, s slot, k effect, e entry
use Rattle.std.specs.Prelude.{true, cond, ◌||◌, List, [], ◌∷◌, ℕ, eqb}
use Rattle.words.specs.declared.node.Entry.{Entry}
use Rattle.iter.specs.Drains.{filled}
use Rattle.iset.specs.Effects.{Effect}
use Rattle.iset.specs.Insert.{InsertAnswer}
use Rattle.iset.specs.Remove.{open_remove_call}
use Rattle.iset.specs.declared.Map.{Map}
use Rattle.disjoint.specs.Point.{PointAnswer, open_point_call, point_call}
use Rattle.disjoint.specs.Place.{open_place_call, place_call}
use Rattle.disjoint.specs.Take.{take_call}
use Rattle.iset_c.specs.Replies.{Reply, Exit, exit, number, left, answer_exit, effect_exit, remove_reply, insert_reply}

-- a point lookup: the slot, the nodes entered
abbrev pub spot_numbers : (slot entered : ℕ) → List ℕ
spot_numbers slot entered = slot ∷ entered ∷ []

abbrev pub point_reply : (answer : PointAnswer) → Reply
point_reply a = record { no = a.no; numbers = spot_numbers a.slot a.entered }

-- an insertion's answer at exit: written if nothing is refused, and with 13 too, which names a slot
unfoldable pub handed_met : (places : List ℕ) (reply : Reply) → List ℕ
handed_met A R = cond (eqb (number true A R) 0 || eqb (number true A R) 13) (filled R.numbers A) A

abbrev pub placed_exit : (places words colours : List ℕ) (effect : Effect InsertAnswer) → Exit
placed_exit A W C k =
    let R : Reply = insert_reply k.answer in
    exit (number true A R) (handed_met A R) (left true A R (W ∷ C ∷ []) (k.words ∷ k.colours ∷ []))

-- the exports, and those of the opened calls
abbrev pub point_exit : (places : List ℕ) (map : Map) (words colours : List ℕ) (address : ℕ) → Exit
point_exit A m W C x = answer_exit true A (point_reply (point_call m W C x))

abbrev pub open_point_exit : (places : List ℕ) (map : Map) (words colours : List ℕ) (address : ℕ)
    → Exit
open_point_exit A m W C x = answer_exit true A (point_reply (open_point_call m W C x))

abbrev pub place_exit : (places : List ℕ) (map : Map) (words colours : List ℕ) (entry : Entry) → Exit
place_exit A m W C e = placed_exit A W C (place_call m W C e)

abbrev pub open_place_exit : (places : List ℕ) (map : Map) (words colours : List ℕ) (entry : Entry)
    → Exit
open_place_exit A m W C e = placed_exit A W C (open_place_call m W C e)

abbrev pub take_exit : (places : List ℕ) (map : Map) (words colours : List ℕ) (slot : ℕ) → Exit
take_exit A m W C s = effect_exit remove_reply A W C (take_call m W C s)

abbrev pub open_take_exit : (places : List ℕ) (map : Map) (words colours : List ℕ) (slot : ℕ) → Exit
open_take_exit A m W C s = effect_exit remove_reply A W C (open_remove_call m W C s)
