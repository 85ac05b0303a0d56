-- What a caller in another language gets of a public call: the number that an export returns, its
-- answer's numbers, in the order in which docs/DRIVE.md prints them, and what it leaves in each
-- lent slice.
-- Letters: m map, W words, C colours, A places of the answer, a answer of the call, R reply,
--   s step, p pairs, n number, b known (whether each bound has a kind), k effect or output,
--   l slices, S triples, e entry, x interval, q query, c cursor, v length, t ticket, y refusal,
--   I image
use Rattle.std.specs.Prelude.{Bool, true, cond, List, [], ◌∷◌, ℕ, length, get_or, eqb, ltb, Result, Ok, Err}
use Rattle.words.specs.Refusals.{refusal_number}
use Rattle.words.specs.declared.refusal.Refusal.{Refusal}
use Rattle.words.specs.declared.interval.Interval.{Interval}
use Rattle.words.specs.declared.interval.Span.{Span}
use Rattle.words.specs.declared.node.Entry.{Entry}
use Rattle.words.specs.declared.pair.Pairs.{Pairs}
use Rattle.iter.specs.Answers.{answer}
use Rattle.iter.specs.Drains.{filled}
use Rattle.iter.specs.declared.Cursor.{Cursor}
use Rattle.iter.specs.declared.rules.Query.{Query}
use Rattle.iter.specs.declared.seek.Step.{Step}
use Rattle.iset.specs.Effects.{Effect, Output}
use Rattle.iset.specs.Build.{BuildAnswer, build_call}
use Rattle.iset.specs.Remove.{RemoveAnswer, remove_call}
use Rattle.iset.specs.Insert.{InsertAnswer, insert_call}
use Rattle.iset.specs.Unload.{UnloadAnswer, unload_call}
use Rattle.iset.specs.Lookup.{StartAnswer, StepAnswer, DrainAnswer, start_call, step_call, drain_call}
use Rattle.iset.specs.Tallies.{TallyAnswer}
use Rattle.iset.specs.Plain.{plain_call}
use Rattle.iset.specs.Find.{find_all_call}
use Rattle.iset.specs.Ticket.{ReadAnswer, read_call}
use Rattle.iset.specs.Tidy.{RenumberAnswer, renumber_call}
use Rattle.iset.specs.Image.{WriteAnswer, write_image_call, read_image_call}
use Rattle.iset.specs.declared.Map.{Map}
use Rattle.iset.specs.declared.ticket.Ticket.{Ticket}

-- What a call answers: the refusal's number, 0 for none, and the numbers of its answer.
pub record Reply : Type 0 where
  pub no : ℕ
  pub numbers : List ℕ

-- What an export returns and leaves: its number, the answer slice, and the other slices that it may
-- write.
pub record Exit : Type 0 where
  pub number : ℕ
  pub answer : List ℕ
  pub slices : List (List ℕ)

abbrev pub exit : (number : ℕ) (places : List ℕ) (slices : List (List ℕ)) → Exit
exit n A l = record { number = n; answer = A; slices = l }

-- An export has two refusals of its own, before those of the call, which is not made then. 101,
-- ShortAnswer: the answer A has fewer places than there are numbers. 102, BadBound: a bound has no
-- kind. So b says whether each bound has one; without a range it is true.
unfoldable pub number : (known : Bool) (places : List ℕ) (reply : Reply) → ℕ
number b A R = cond (ltb (length A) (length R.numbers)) 101 (cond b R.no 102)

-- the answer at exit: "Nothing lent changes" where anything is refused; places past the numbers
-- stay
unfoldable pub handed : (known : Bool) (places : List ℕ) (reply : Reply) → List ℕ
handed b A R = cond (eqb (number b A R) 0) (filled R.numbers A) A

-- the other slices at exit: as the call leaves them, or as they were where it is not made
unfoldable pub left : (known : Bool) (places : List ℕ) (reply : Reply) (old new : List (List ℕ))
    → List (List ℕ)
left b A R old new = cond (ltb (length A) (length R.numbers)) old (cond b new old)

abbrev pub exit_of : (known : Bool) (places : List ℕ) (reply : Reply) (old new : List (List ℕ))
    → Exit
exit_of b A R old new = exit (number b A R) (handed b A R) (left b A R old new)

-- of a call that writes nothing but its answer; of one with a range that writes the store, and of
-- one without a range; of one that writes an output
abbrev pub answer_exit : (known : Bool) (places : List ℕ) (reply : Reply) → Exit
answer_exit b A R = exit_of b A R [] []

abbrev pub ranged_effect_exit : {K : Type 0} → (reply : K → Reply) (known : Bool)
    (places words colours : List ℕ) (effect : Effect K) → Exit
ranged_effect_exit reply b A W C k = exit_of b A (reply k.answer) (W ∷ C ∷ []) (k.words ∷ k.colours ∷ [])

abbrev pub effect_exit : {K : Type 0} → (reply : K → Reply) (places words colours : List ℕ)
    (effect : Effect K) → Exit
effect_exit reply A W C k = ranged_effect_exit reply true A W C k

abbrev pub output_exit : {K : Type 0} → (reply : K → Reply) (known : Bool) (places out : List ℕ)
    (output : Output K) → Exit
output_exit reply b A out k = exit_of b A (reply k.answer) (out ∷ []) (k.output ∷ [])

-- of the result of a call that is made: the number that an export returns, and the answer at exit
abbrev pub refusal_of : {T : Type 0} → (returned : Result T Refusal) → ℕ
refusal_of (Ok x) = 0
refusal_of (Err y) = refusal_number y

abbrev pub written : {T : Type 0} → (numbers : T → List ℕ) (returned : Result T Refusal) (places : List ℕ)
    → List ℕ
written numbers (Ok x) A = filled (numbers x) A
written numbers (Err y) A = A

abbrev pub cursor_of : (slot levels bits : ℕ) → Cursor
cursor_of slot levels bits = record { slot = slot; levels = levels; bits = bits }

-- a build: the new map. The version comes after the numbers that were there before it, here and in
-- a removal and an insertion.
abbrev pub map_numbers : (map : Map) → List ℕ
map_numbers m = m.count ∷ m.root ∷ m.version ∷ []

abbrev pub build_reply : (answer : BuildAnswer) → Reply
build_reply a = record { no = a.no; numbers = map_numbers a.map }

-- a removal: "removed value, new map, and up to three pairs (old slot, new slot)", and how many
-- hulls changed
abbrev pub removed_numbers : (value : ℕ) (map : Map) (pairs : Pairs) (reach : ℕ) → List ℕ
removed_numbers value m p reach =
    value ∷ m.count ∷ m.root
    ∷ p.first.old ∷ p.first.new ∷ p.second.old ∷ p.second.new ∷ p.third.old ∷ p.third.new ∷ reach ∷ m.version ∷ []

-- the pairs among those numbers
abbrev pub pairs_of : (places : List ℕ) → Pairs
pairs_of A =
    record {
      first = record { old = get_or A 3 0; new = get_or A 4 0 };
      second = record { old = get_or A 5 0; new = get_or A 6 0 };
      third = record { old = get_or A 7 0; new = get_or A 8 0 };
    }

abbrev pub remove_reply : (answer : RemoveAnswer) → Reply
remove_reply a = record { no = a.no; numbers = removed_numbers a.value a.map a.pairs a.reach }

-- an insertion: the new map, the slot of the new entry, and how many hulls changed
abbrev pub inserted_numbers : (map : Map) (slot reach : ℕ) → List ℕ
inserted_numbers m slot reach = m.count ∷ m.root ∷ slot ∷ reach ∷ m.version ∷ []

abbrev pub insert_reply : (answer : InsertAnswer) → Reply
insert_reply a = record { no = a.no; numbers = inserted_numbers a.map a.slot a.reach }

-- an unloading: the new map, and how many entries went
abbrev pub unloaded_numbers : (map : Map) (gone : ℕ) → List ℕ
unloaded_numbers m gone = m.count ∷ m.root ∷ m.version ∷ gone ∷ []

abbrev pub unload_reply : (answer : UnloadAnswer) → Reply
unload_reply a = record { no = a.no; numbers = unloaded_numbers a.map a.gone }

-- a renumbering: the new map
abbrev pub renumber_reply : (answer : RenumberAnswer) → Reply
renumber_reply a = record { no = a.no; numbers = map_numbers a.map }

-- a reading through a ticket: start, end, value
abbrev pub entry_numbers_lem : (entry : Entry) → List ℕ
entry_numbers_lem e = e.start ∷ e.end ∷ e.value ∷ []

abbrev pub read_reply : (answer : ReadAnswer) → Reply
read_reply a = record { no = a.no; numbers = entry_numbers_lem a.entry }

-- the ticket of a slot and of the version at which it was taken
abbrev pub ticket_at_lem : (slot taken : ℕ) → Ticket
ticket_at_lem slot taken = record { slot = slot; version = taken }

-- writing an image: its length. Reading one answers as a build does.
abbrev pub length_numbers : (length : ℕ) → List ℕ
length_numbers v = v ∷ []

abbrev pub write_reply : (answer : WriteAnswer) → Reply
write_reply a = record { no = a.no; numbers = length_numbers a.length }

-- a cursor: slot, levels, bits
abbrev pub cursor_numbers : (cursor : Cursor) → List ℕ
cursor_numbers c = c.slot ∷ c.levels ∷ c.bits ∷ []

abbrev pub fresh_reply : (cursor : Cursor) → Reply
fresh_reply c = record { no = 0; numbers = cursor_numbers c }

abbrev pub start_reply : (answer : StartAnswer) → Reply
start_reply a = record { no = a.no; numbers = cursor_numbers a.cursor }

-- a step: "a hit with its slot, or the end", whose slot is U, "with the next cursor and the nodes
-- entered in this call"
abbrev pub step_numbers : (slot : ℕ) (next : Cursor) (entered : ℕ) → List ℕ
step_numbers slot next entered = slot ∷ next.slot ∷ next.levels ∷ next.bits ∷ entered ∷ []

abbrev pub found_numbers : (step : Step) → List ℕ
found_numbers s = step_numbers (answer s).slot (answer s).next (answer s).entered

abbrev pub step_reply : (answer : StepAnswer) → Reply
step_reply a = record { no = a.no; numbers = step_numbers a.slot a.next a.entered }

-- a drain: "the hits written, the sum entered and the next cursor"
abbrev pub drain_numbers : (hits entered : ℕ) (next : Cursor) → List ℕ
drain_numbers hits entered next = hits ∷ entered ∷ cursor_numbers next

abbrev pub drain_reply : (answer : DrainAnswer) → Reply
drain_reply a = record { no = a.no; numbers = drain_numbers a.hits a.entered a.next }

-- a lookup that finds all hits at once: the hits, the nodes entered
abbrev pub tally_numbers : (hits entered : ℕ) → List ℕ
tally_numbers hits entered = hits ∷ entered ∷ []

abbrev pub tally_reply : (answer : TallyAnswer) → Reply
tally_reply a = record { no = a.no; numbers = tally_numbers a.hits a.entered }

-- the exports of the public calls
abbrev pub build_exit : (places : List ℕ) (map : Map) (words colours triples : List ℕ) → Exit
build_exit A m W C S = effect_exit build_reply A W C (build_call m W C S)

abbrev pub remove_exit : (places : List ℕ) (map : Map) (words colours : List ℕ) (slot : ℕ) → Exit
remove_exit A m W C slot = effect_exit remove_reply A W C (remove_call m W C slot)

abbrev pub insert_exit : (places : List ℕ) (map : Map) (words colours : List ℕ) (entry : Entry)
    → Exit
insert_exit A m W C e = effect_exit insert_reply A W C (insert_call m W C e)

abbrev pub unload_exit : (known : Bool) (places : List ℕ) (map : Map) (words colours : List ℕ)
    (rule : ℕ) (range : Span) → Exit
unload_exit b A m W C rule range = ranged_effect_exit unload_reply b A W C (unload_call m W C rule range)

abbrev pub renumber_exit : (places : List ℕ) (map : Map) (words colours plan : List ℕ) → Exit
renumber_exit A m W C plan = effect_exit renumber_reply A W C (renumber_call m W C plan)

abbrev pub read_exit : (places : List ℕ) (map : Map) (words colours : List ℕ) (ticket : Ticket)
    → Exit
read_exit A m W C t = answer_exit true A (read_reply (read_call m W C t))

abbrev pub write_image_exit : (places : List ℕ) (map : Map) (words colours out : List ℕ) → Exit
write_image_exit A m W C out = output_exit write_reply true A out (write_image_call m W C out)

abbrev pub read_image_exit : (places : List ℕ) (map : Map) (words colours image : List ℕ) → Exit
read_image_exit A m W C I = effect_exit build_reply A W C (read_image_call m W C I)

abbrev pub start_exit : (places : List ℕ) (map : Map) (words colours : List ℕ) (interval : Interval)
    → Exit
start_exit A m W C x = answer_exit true A (start_reply (start_call m W C x))

abbrev pub step_exit : (known : Bool) (places : List ℕ) (map : Map) (words colours : List ℕ)
    (query : Query) (cursor : Cursor) → Exit
step_exit b A m W C q c = answer_exit b A (step_reply (step_call m W C q c))

abbrev pub drain_exit : (known : Bool) (places : List ℕ) (map : Map) (words colours : List ℕ)
    (query : Query) (cursor : Cursor) (limit : ℕ) (out : List ℕ) → Exit
drain_exit b A m W C q c limit out = output_exit drain_reply b A out (drain_call m W C q c limit out)

abbrev pub plain_exit : (known : Bool) (places : List ℕ) (map : Map) (words colours : List ℕ)
    (query : Query) (out : List ℕ) → Exit
plain_exit b A m W C q out = output_exit tally_reply b A out (plain_call m W C q out)

abbrev pub find_all_exit : (known : Bool) (places : List ℕ) (map : Map) (words colours : List ℕ)
    (query : Query) (out : List ℕ) → Exit
find_all_exit b A m W C q out = output_exit tally_reply b A out (find_all_call m W C q out)
