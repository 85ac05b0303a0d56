-- The lines' work in lent memory: node words, colour bytes, and the numbers of the entries.
-- Letters: m map, W words, C colours, n count, r root, b end, E entries (their numbers), k slot,
--   a start, c value, d desk, w work, h shelf, S triples, y refusal
use Rattle.std.specs.Prelude.{Bool, false, Result, Ok, Err, cond, List, [], ◌∷◌, ℕ, ◌+◌, ◌*◌, ◌/◌, min, length, take, eqb, ltb, leb}
use Rattle.std.proofs.lemmas.List.Edits.{sets}
use Rattle.iset.specs.Effects.{Effect, effect}
use Rattle.iset.specs.Build.{BuildAnswer, build_call}
use Rattle.iset.specs.Maps.{empty_map}
use Rattle.iset.specs.Remove.{RemoveAnswer, remove_call}
use Rattle.iset.specs.declared.Map.{Map}
use Rattle.words.specs.Refusals.{refusal_number}
use Rattle.words.specs.declared.refusal.Refusal.{Refusal}
use Rattle.slotlist_core.specs.declared.reading.Said.{Said}
use Rattle.slotlist_core.specs.declared.reading.Said.TheVariants.{Entry, Remove, Other}
use Rattle.slotlist_core.specs.declared.working.Work.{Work}
use Rattle.slotlist_core.specs.declared.working.Work.TheVariants as work

-- what the lines so far have led to: the number of entries in the list, the map that was built, or
-- the first refusal's number
pub data Job : Type 0 where
  Listing : (count : ℕ) → Job
  Mapped : (map : Map) → Job
  Refused : (why : ℕ) → Job

abbrev pub job : (work : Result Work Refusal) → Job
job (Ok (work.Listing n)) = Listing n
job (Ok (work.Mapped m)) = Mapped m
job (Err y) = Refused (refusal_number y)

-- The work with the map's memory is an `Effect Job`; with the list's too it is this.
pub record Desk : Type 0 where
  pub work : Job
  pub nodes : List ℕ
  pub colours : List ℕ
  pub entries : List ℕ

abbrev pub desk : (work : Job) (words colours entries : List ℕ) → Desk
desk w W C E = record { work = w; nodes = W; colours = C; entries = E }

-- "at most 256"; no more than the slice holds
unfoldable pub room_for : (count len : ℕ) → Bool
room_for n len = cond (ltb n 256) (leb (n * 3 + 3) len) false

-- an entry
abbrev pub entered_work : (work : Job) (len : ℕ) → Job
entered_work (Listing n) len = cond (room_for n len) (Listing (n + 1)) (Refused 1)
entered_work (Mapped m) len = Refused 8
entered_work (Refused why) len = Refused why

abbrev pub entered_list : (work : Job) (start end value : ℕ) (entries : List ℕ) → List ℕ
entered_list (Listing n) a b c E = cond (room_for n (length E)) (sets E (n * 3) (a ∷ b ∷ c ∷ [])) E
entered_list (Mapped m) a b c E = E
entered_list (Refused why) a b c E = E

-- the numbers of n entries, of so many as the slice holds
unfoldable pub listed_in : (count : ℕ) (entries : List ℕ) → List ℕ
listed_in n E = take (min n (length E / 3) * 3) E

-- what a call leads to, by its number and the map that it answered
abbrev pub work_left : (why : ℕ) (map : Map) → Job
work_left why m = cond (eqb why 0) (Mapped m) (Refused why)

abbrev pub build_left : (root : Effect BuildAnswer) → Effect Job
build_left r = effect (work_left r.answer.no r.answer.map) r.words r.colours

abbrev pub remove_left : (root : Effect RemoveAnswer) → Effect Job
remove_left r = effect (work_left r.answer.no r.answer.map) r.words r.colours

-- the build of the list S; the removal of slot k
unfoldable pub built_in : (words colours triples : List ℕ) → Effect Job
built_in W C S = build_left (build_call empty_map W C S)

unfoldable pub removal_in : (map : Map) (words colours : List ℕ) (slot : ℕ) → Effect Job
removal_in m W C k = remove_left (remove_call m W C k)

abbrev pub settled_by : (entries : List ℕ) (work : Job) (words colours : List ℕ) → Effect Job
settled_by E (Listing n) W C = built_in W C (listed_in n E)
settled_by E (Mapped m) W C = effect (Mapped m) W C
settled_by E (Refused why) W C = effect (Refused why) W C

abbrev pub settled_in : (entries : List ℕ) (shelf : Effect Job) → Effect Job
settled_in E h = settled_by E h.answer h.words h.colours

abbrev pub removed_by : (slot : ℕ) (work : Job) (words colours : List ℕ) → Effect Job
removed_by k (Listing n) W C = effect (Listing n) W C
removed_by k (Mapped m) W C = removal_in m W C k
removed_by k (Refused why) W C = effect (Refused why) W C

abbrev pub removed_in : (slot : ℕ) (shelf : Effect Job) → Effect Job
removed_in k h = removed_by k h.answer h.words h.colours

-- any other line
abbrev pub wrong_in : (work : Job) → Job
wrong_in (Listing n) = Refused 8
wrong_in (Mapped m) = Refused 8
wrong_in (Refused why) = Refused why

-- one line more
abbrev pub on_desk : (shelf : Effect Job) (entries : List ℕ) → Desk
on_desk h E = desk h.answer h.words h.colours E

unfoldable pub line_in : (said : Said) (desk : Desk) → Desk
line_in (Entry a b c) d =
    desk (entered_work d.work (length d.entries)) d.nodes d.colours (entered_list d.work a b c d.entries)
line_in (Remove k) d = on_desk (removed_in k (settled_in d.entries (effect d.work d.nodes d.colours))) d.entries
line_in Other d = desk (wrong_in d.work) d.nodes d.colours d.entries
