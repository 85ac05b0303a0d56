-- Every operation that is lent node words, with its arguments; what it answers, and what it leaves.
-- Letters: m map, M memory, a answer, l triples, x interval or address, I image (its bytes),
--   s slot, e entry, t ticket, q query, c cursor, A any type, k link or effect or output
use Rattle.std.specs.Prelude.{List, ℕ}
use Rattle.words.specs.declared.interval.Interval.{Interval}
use Rattle.words.specs.declared.interval.Span.{Span}
use Rattle.words.specs.declared.node.Entry.{Entry}
use Rattle.iter.specs.declared.Cursor.{Cursor}
use Rattle.iter.specs.declared.rules.Query.{Query}
use Rattle.iset.specs.Effects.{Effect, Output}
use Rattle.iset.specs.Check.{check_rule}
use Rattle.iset.specs.Build.{BuildAnswer, build_call}
use Rattle.iset.specs.Insert.{InsertAnswer, open_insert_call, insert_call}
use Rattle.iset.specs.Remove.{RemoveAnswer, open_remove_call, remove_call}
use Rattle.iset.specs.Unload.{UnloadAnswer, open_unload_call, unload_call}
use Rattle.iset.specs.Tidy.{open_propose_call, propose_call, RenumberAnswer, open_renumber_call, renumber_call}
use Rattle.iset.specs.Ticket.{ReadAnswer, open_read_call, read_call}
use Rattle.iset.specs.Lookup.{StartAnswer, open_start_call, start_call, StepAnswer, open_step_call, step_call, DrainAnswer, open_drain_call, drain_call}
use Rattle.iset.specs.Tallies.{TallyAnswer}
use Rattle.iset.specs.Find.{open_find_all_call, find_all_call}
use Rattle.iset.specs.Plain.{open_plain_call, plain_call}
use Rattle.iset.specs.Image.{WriteAnswer, open_write_image_call, write_image_call, read_image_call}
use Rattle.iset.specs.declared.Map.{Map}
use Rattle.iset.specs.declared.ticket.Ticket.{Ticket}
use Rattle.disjoint.specs.Check.{disjoint_rule_lem}
use Rattle.disjoint.specs.Point.{PointAnswer, open_point_call, point_call}
use Rattle.disjoint.specs.Place.{open_place_call, place_call}
use Rattle.disjoint.specs.Take.{take_call}

-- the public calls and the opened ones, on any map and on disjoint maps
pub data Operation : Type 0 where
  check : Operation
  build : (triples : List ℕ) → Operation
  insert : (entry : Entry) → Operation
  open_insert_lem : (entry : Entry) → Operation
  remove : (slot : ℕ) → Operation
  open_remove_lem : (slot : ℕ) → Operation
  unload : (rule : ℕ) (range : Span) → Operation
  open_unload_lem : (rule : ℕ) (range : Span) → Operation
  propose : Operation
  open_propose_lem : Operation
  renumber : (plan : List ℕ) → Operation
  open_renumber_lem : (plan : List ℕ) → Operation
  read : (ticket : Ticket) → Operation
  open_read_lem : (ticket : Ticket) → Operation
  fresh_exact_lem : (interval : Interval) → Operation
  open_fresh_exact_lem : (interval : Interval) → Operation
  step : (query : Query) (cursor : Cursor) → Operation
  open_step_lem : (query : Query) (cursor : Cursor) → Operation
  drain : (query : Query) (cursor : Cursor) (limit : ℕ) → Operation
  open_drain_lem : (query : Query) (cursor : Cursor) (limit : ℕ) → Operation
  find_all_lem : (query : Query) → Operation
  open_find_all_lem : (query : Query) → Operation
  plain : (query : Query) → Operation
  open_plain_lem : (query : Query) → Operation
  write_image_lem : Operation
  open_write_image_lem : Operation
  read_image_lem : (image : List ℕ) → Operation
  check_disjoint : Operation
  point : (address : ℕ) → Operation
  open_point_lem : (address : ℕ) → Operation
  place : (entry : Entry) → Operation
  open_place : (entry : Entry) → Operation
  take : (slot : ℕ) → Operation

-- what an operation answers
abbrev pub Answer : (operation : Operation) → Type 0
Answer check = ℕ
Answer (build l) = BuildAnswer
Answer (insert e) = InsertAnswer
Answer (open_insert_lem e) = InsertAnswer
Answer (remove s) = RemoveAnswer
Answer (open_remove_lem s) = RemoveAnswer
Answer (unload k q) = UnloadAnswer
Answer (open_unload_lem k q) = UnloadAnswer
Answer propose = ℕ
Answer open_propose_lem = ℕ
Answer (renumber l) = RenumberAnswer
Answer (open_renumber_lem l) = RenumberAnswer
Answer (read t) = ReadAnswer
Answer (open_read_lem t) = ReadAnswer
Answer (fresh_exact_lem x) = StartAnswer
Answer (open_fresh_exact_lem x) = StartAnswer
Answer (step q c) = StepAnswer
Answer (open_step_lem q c) = StepAnswer
Answer (drain q c limit) = DrainAnswer
Answer (open_drain_lem q c limit) = DrainAnswer
Answer (find_all_lem q) = TallyAnswer
Answer (open_find_all_lem q) = TallyAnswer
Answer (plain q) = TallyAnswer
Answer (open_plain_lem q) = TallyAnswer
Answer write_image_lem = WriteAnswer
Answer open_write_image_lem = WriteAnswer
Answer (read_image_lem I) = BuildAnswer
Answer check_disjoint = ℕ
Answer (point x) = PointAnswer
Answer (open_point_lem x) = PointAnswer
Answer (place e) = InsertAnswer
Answer (open_place e) = InsertAnswer
Answer (take s) = RemoveAnswer

-- what is lent: the node words, the colours, and the output; an operation without one leaves it
pub record Memory : Type 0 where
  pub words : List ℕ
  pub colours : List ℕ
  pub out : List ℕ

-- an answer with the memory that is left
pub record Result (A : Type 0) : Type 0 where
  pub answer : A
  pub memory : Memory

abbrev pub stays : {A : Type 0} → (memory : Memory) (answer : A) → Result A
stays M a = record { answer = a; memory = M }

abbrev pub writes : {A : Type 0} → (memory : Memory) (effect : Effect A) → Result A
writes M k = record { answer = k.answer; memory = record { words = k.words; colours = k.colours; out = M.out } }

abbrev pub fills : {A : Type 0} → (memory : Memory) (output : Output A) → Result A
fills M k = record { answer = k.answer; memory = record { words = M.words; colours = M.colours; out = k.output } }

-- What an operation answers and leaves on eight-word nodes: the public calls' rules.
unfoldable pub result : (operation : Operation) (map : Map) (memory : Memory) → Result (Answer operation)
result check m M = stays M (check_rule m M.words M.colours)
result (build l) m M = writes M (build_call m M.words M.colours l)
result (insert e) m M = writes M (insert_call m M.words M.colours e)
result (open_insert_lem e) m M = writes M (open_insert_call m M.words M.colours e)
result (remove s) m M = writes M (remove_call m M.words M.colours s)
result (open_remove_lem s) m M = writes M (open_remove_call m M.words M.colours s)
result (unload k q) m M = writes M (unload_call m M.words M.colours k q)
result (open_unload_lem k q) m M = writes M (open_unload_call m M.words M.colours k q)
result propose m M = fills M (propose_call m M.words M.colours M.out)
result open_propose_lem m M = fills M (open_propose_call m M.words M.colours M.out)
result (renumber l) m M = writes M (renumber_call m M.words M.colours l)
result (open_renumber_lem l) m M = writes M (open_renumber_call m M.words M.colours l)
result (read t) m M = stays M (read_call m M.words M.colours t)
result (open_read_lem t) m M = stays M (open_read_call m M.words M.colours t)
result (fresh_exact_lem x) m M = stays M (start_call m M.words M.colours x)
result (open_fresh_exact_lem x) m M = stays M (open_start_call m M.words M.colours x)
result (step q c) m M = stays M (step_call m M.words M.colours q c)
result (open_step_lem q c) m M = stays M (open_step_call m M.words M.colours q c)
result (drain q c limit) m M = fills M (drain_call m M.words M.colours q c limit M.out)
result (open_drain_lem q c limit) m M = fills M (open_drain_call m M.words M.colours q c limit M.out)
result (find_all_lem q) m M = fills M (find_all_call m M.words M.colours q M.out)
result (open_find_all_lem q) m M = fills M (open_find_all_call m M.words M.colours q M.out)
result (plain q) m M = fills M (plain_call m M.words M.colours q M.out)
result (open_plain_lem q) m M = fills M (open_plain_call m M.words M.colours q M.out)
result write_image_lem m M = fills M (write_image_call m M.words M.colours M.out)
result open_write_image_lem m M = fills M (open_write_image_call m M.words M.colours M.out)
result (read_image_lem I) m M = writes M (read_image_call m M.words M.colours I)
result check_disjoint m M = stays M (disjoint_rule_lem m M.words M.colours)
result (point x) m M = stays M (point_call m M.words M.colours x)
result (open_point_lem x) m M = stays M (open_point_call m M.words M.colours x)
result (place e) m M = writes M (place_call m M.words M.colours e)
result (open_place e) m M = writes M (open_place_call m M.words M.colours e)
result (take s) m M = writes M (take_call m M.words M.colours s)

-- the map after an operation: the one that it answers, if it answers one
abbrev pub map_after : (operation : Operation) (map : Map) (answer : Answer operation) → Map
map_after check m a = m
map_after (build l) m a = a.map
map_after (insert e) m a = a.map
map_after (open_insert_lem e) m a = a.map
map_after (remove s) m a = a.map
map_after (open_remove_lem s) m a = a.map
map_after (unload k q) m a = a.map
map_after (open_unload_lem k q) m a = a.map
map_after propose m a = m
map_after open_propose_lem m a = m
map_after (renumber l) m a = a.map
map_after (open_renumber_lem l) m a = a.map
map_after (read t) m a = m
map_after (open_read_lem t) m a = m
map_after (fresh_exact_lem x) m a = m
map_after (open_fresh_exact_lem x) m a = m
map_after (step q c) m a = m
map_after (open_step_lem q c) m a = m
map_after (drain q c limit) m a = m
map_after (open_drain_lem q c limit) m a = m
map_after (find_all_lem q) m a = m
map_after (open_find_all_lem q) m a = m
map_after (plain q) m a = m
map_after (open_plain_lem q) m a = m
map_after write_image_lem m a = m
map_after open_write_image_lem m a = m
map_after (read_image_lem I) m a = a.map
map_after check_disjoint m a = m
map_after (point x) m a = m
map_after (open_point_lem x) m a = m
map_after (place e) m a = a.map
map_after (open_place e) m a = a.map
map_after (take s) m a = a.map
