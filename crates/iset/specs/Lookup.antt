-- "overlap step 1, 2, 4, 7; exact step 1, 2, 5, 7; drain as its step, then 9": the check, then what
-- an opened lookup tests
-- Letters: m map, W words, C colours, a lower number or answer, b higher number, h hit?, s step,
--   d drained, y high bound or refusal, x low or interval, q range or query, c cursor, k rule or
--   number of a refusal
use Rattle.std.specs.Prelude.{ℕ, Bool, true, false, cond, List, length, ◌==◌, nat_le, nat_lt, Result, Ok, Err}
use Rattle.words.specs.Ix.{U}
use Rattle.words.specs.Refusals.{refusal_number}
use Rattle.words.specs.declared.refusal.Refusal.{Refusal}
use Rattle.words.specs.Intervals.{proper}
use Rattle.std.specs.declared.ops.Bound.{Bound}
use Rattle.std.specs.declared.ops.Bound.TheVariants.{Included, Excluded, Unbounded}
use Rattle.words.specs.declared.interval.Interval.{Interval}
use Rattle.iter.specs.Ranges.{any_whole}
use Rattle.iter.specs.Cursors.{fresh, ended}
use Rattle.iter.specs.Exact.{find_from}
use Rattle.iter.specs.Forms.{form_of}
use Rattle.iter.specs.Walk.{Answer, step}
use Rattle.iter.specs.Drains as drains
use Rattle.iter.specs.Queries.{rules}
use Rattle.iter.specs.Answers.{answer, is_hit_lem}
use Rattle.iter.specs.declared.Cursor.{Cursor}
use Rattle.iter.specs.declared.Form.{Form}
use Rattle.iter.specs.declared.Form.TheVariants as form
use Rattle.iter.specs.declared.rules.Query.{Query}
use Rattle.iter.specs.declared.rules.Query.TheVariants.{Overlap, Ruled, Exact}
use Rattle.iset.specs.Effects.{Output, output}
use Rattle.iset.specs.Check.{first, count_number, check_rule}
use Rattle.iset.specs.declared.Map.{Map}
use Rattle.iter.specs.declared.seek.Step.{Step}
use Rattle.iter.specs.declared.drain.Drained.{Drained}

-- not BadRange: a bound is Unbounded, or lo < hi, or lo = hi and both are Included
abbrev pub ordered : (low high : Bound ℕ) → Bool
ordered (Included a) (Included b) = nat_le a b
ordered (Included a) (Excluded b) = nat_lt a b
ordered (Included a) Unbounded = true
ordered (Excluded a) (Included b) = nat_lt a b
ordered (Excluded a) (Excluded b) = nat_lt a b
ordered (Excluded a) Unbounded = true
ordered Unbounded y = true

-- document 02, item 11: not BadRange by the rule of a number, "4 also for rule 2 when no whole
-- address lies in the range, and for any other rule number"
abbrev pub accepts : (rule : ℕ) (low high : Bound ℕ) → Bool
accepts k x y = cond (k == 1) (ordered x y) (cond (k == 2) (any_whole x y) false)

-- 4: BadRange; 5: "a given interval has start >= end"
abbrev pub query_number : (query : Query) → ℕ
query_number (Overlap q) = cond (ordered q.lo q.hi) 0 4
query_number (Ruled k q) = cond (accepts k q.lo q.hi) 0 4
query_number (Exact x) = cond (proper x) 0 5

-- where a lookup begins: the root, or "the highest equal node, U if none"
abbrev pub beginning : (map : Map) (words : List ℕ) (query : Query) → ℕ
beginning m W (Overlap q) = m.root
beginning m W (Ruled k q) = m.root
beginning m W (Exact x) = find_from W m.count x m.root

-- 7: "cursor has no form below"
abbrev pub form_number : (form : Form) → ℕ
form_number form.Fresh = 0
form_number form.Held = 0
form_number form.Ended = 0
form_number form.Bad = 7

-- the first refusal's number, 0 for none, in an opened store: of a query alone; of one with a
-- cursor; of a drain
unfoldable pub open_start_number : (map : Map) (words colours : List ℕ) (query : Query) → ℕ
open_start_number m W C q = first (count_number m W C) (query_number q)

unfoldable pub open_step_number : (map : Map) (words colours : List ℕ) (query : Query)
    (cursor : Cursor) → ℕ
open_step_number m W C q c = first (open_start_number m W C q) (form_number (form_of W m.count (beginning m W q) c))

unfoldable pub open_drain_number : (map : Map) (words colours : List ℕ) (query : Query)
    (cursor : Cursor) (limit places : ℕ) → ℕ
open_drain_number m W C q c limit places = first (open_step_number m W C q c) (cond (nat_lt places (drains.limit_of_lem limit places)) 9 0)

-- and of the public calls
unfoldable pub start_number : (map : Map) (words colours : List ℕ) (query : Query) → ℕ
start_number m W C q = first (check_rule m W C) (open_start_number m W C q)

unfoldable pub step_number : (map : Map) (words colours : List ℕ) (query : Query) (cursor : Cursor)
    → ℕ
step_number m W C q c = first (check_rule m W C) (open_step_number m W C q c)

unfoldable pub drain_number : (map : Map) (words colours : List ℕ) (query : Query) (cursor : Cursor)
    (limit places : ℕ) → ℕ
drain_number m W C q c limit places = first (check_rule m W C) (open_drain_number m W C q c limit places)

-- What the calls answer. A refusal has the cursor as given, slot U, counts 0; a fresh cursor that
-- is refused is the ended one. `start_answer`, `step_answer` and `drain_answer` say what the code's
-- answers stand for.
pub record StartAnswer : Type 0 where
  pub no : ℕ
  pub cursor : Cursor

abbrev pub refused_start : (number : ℕ) → StartAnswer
refused_start k = record { no = k; cursor = ended }

abbrev pub start_answer : (started : Result Cursor Refusal) → StartAnswer
start_answer (Ok c) = record { no = 0; cursor = c }
start_answer (Err y) = refused_start (refusal_number y)

abbrev pub start_by : (map : Map) (words : List ℕ) (interval : Interval) (number : ℕ) → StartAnswer
start_by m W x k = cond (k == 0) (record { no = 0; cursor = fresh (beginning m W (Exact x)) }) (refused_start k)

unfoldable pub open_start_call : (map : Map) (words colours : List ℕ) (interval : Interval)
    → StartAnswer
open_start_call m W C x = start_by m W x (open_start_number m W C (Exact x))

unfoldable pub start_call : (map : Map) (words colours : List ℕ) (interval : Interval) → StartAnswer
start_call m W C x = start_by m W x (start_number m W C (Exact x))

-- a step: a hit with its slot, or the end, the next cursor and the nodes entered
pub record StepAnswer : Type 0 where
  pub no : ℕ
  pub hit : Bool
  pub slot : ℕ
  pub next : Cursor
  pub entered : ℕ

abbrev pub step_done : (hit? : Bool) (answer : Answer) → StepAnswer
step_done h a = record { no = 0; hit = h; slot = a.slot; next = a.next; entered = a.entered }

abbrev pub refused_step : (cursor : Cursor) (number : ℕ) → StepAnswer
refused_step c k = record { no = k; hit = false; slot = U; next = c; entered = 0 }

abbrev pub step_answer : (cursor : Cursor) (stepped : Result Step Refusal) → StepAnswer
step_answer c (Ok s) = step_done (is_hit_lem s) (answer s)
step_answer c (Err y) = refused_step c (refusal_number y)

abbrev pub step_by : (map : Map) (words : List ℕ) (query : Query) (cursor : Cursor) (number : ℕ)
    → StepAnswer
step_by m W q c k =
    let a : Answer = step W m.count (rules W m.count q) c in
    cond (k == 0) (step_done (nat_lt a.slot m.count) a) (refused_step c k)

unfoldable pub open_step_call : (map : Map) (words colours : List ℕ) (query : Query) (cursor : Cursor)
    → StepAnswer
open_step_call m W C q c = step_by m W q c (open_step_number m W C q c)

unfoldable pub step_call : (map : Map) (words colours : List ℕ) (query : Query) (cursor : Cursor)
    → StepAnswer
step_call m W C q c = step_by m W q c (step_number m W C q c)

-- a drain: the hits written, the nodes entered, the next cursor
pub record DrainAnswer : Type 0 where
  pub no : ℕ
  pub hits : ℕ
  pub entered : ℕ
  pub next : Cursor

abbrev pub drain_done : (drained : drains.Drained) → DrainAnswer
drain_done d = record { no = 0; hits = length d.slots; entered = d.entered; next = d.next }

abbrev pub refused_drain : (cursor : Cursor) (number : ℕ) → DrainAnswer
refused_drain c k = record { no = k; hits = 0; entered = 0; next = c }

abbrev pub drain_answer : (cursor : Cursor) (drain : Result Drained Refusal) → DrainAnswer
drain_answer c (Ok d) = record { no = 0; hits = d.hits; entered = d.entered; next = d.next }
drain_answer c (Err y) = refused_drain c (refusal_number y)

-- "Places past the hits written stay."
abbrev pub drain_by_lem : (map : Map) (words : List ℕ) (query : Query) (cursor : Cursor) (limit : ℕ)
    (out : List ℕ) (number : ℕ) → Output DrainAnswer
drain_by_lem m W q c limit out k =
    let d : drains.Drained = drains.drain W m.count (rules W m.count q) (drains.limit_of_lem limit (length out)) c in
    cond (k == 0) (output (drain_done d) (drains.filled d.slots out)) (output (refused_drain c k) out)

unfoldable pub open_drain_call : (map : Map) (words colours : List ℕ) (query : Query)
    (cursor : Cursor) (limit : ℕ) (out : List ℕ) → Output DrainAnswer
open_drain_call m W C q c limit out = drain_by_lem m W q c limit out (open_drain_number m W C q c limit (length out))

unfoldable pub drain_call : (map : Map) (words colours : List ℕ) (query : Query) (cursor : Cursor)
    (limit : ℕ) (out : List ℕ) → Output DrainAnswer
drain_call m W C q c limit out = drain_by_lem m W q c limit out (drain_number m W C q c limit (length out))
