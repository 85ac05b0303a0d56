-- A row of the table: what is asked of the public calls' rules, and what they tell.
-- Letters: m map, W words, C colours, t store, s slot, e entry, q query, c pair or cursor or call,
--   x interval, S triples, a old slot or pair or answer, d output or answer, k steps at most or
--   slot, r row, b new slot or pair or byte, l pairs
use Rattle.std.specs.Prelude.{◌≡◌, true, false, cond, List, [], ◌∷◌, ℕ, zero, suc, eqb, replicate, take, drop}
use Rattle.words.specs.Layouts.{as_eight}
use Rattle.words.specs.Nodes.{kid, words_of}
use Rattle.std.specs.declared.ops.Bound.{Bound}
use Rattle.words.specs.declared.interval.Interval.{Interval}
use Rattle.words.specs.declared.interval.Span.{Span}
use Rattle.words.specs.declared.node.Entry.{Entry}
use Rattle.tree.specs.Tree.{Tree, height}
use Rattle.tree_rm_rule.specs.Pairs.{none}
use Rattle.words.specs.declared.pair.Pair.{Pair}
use Rattle.words.specs.declared.pair.Pairs.{Pairs}
use Rattle.iter.specs.Cursors.{fresh}
use Rattle.iter.specs.declared.Cursor.{Cursor}
use Rattle.iter.specs.declared.rules.Query.{Query}
use Rattle.iter.specs.declared.rules.Query.TheVariants.{Overlap, Ruled, Exact}
use Rattle.iset.specs.Effects.{Effect, Output}
use Rattle.iset.specs.Build.{BuildAnswer, build_call}
use Rattle.iset.specs.Remove.{RemoveAnswer, remove_call}
use Rattle.iset.specs.Insert.{InsertAnswer, insert_call}
use Rattle.iset.specs.Unload.{UnloadAnswer, unload_call}
use Rattle.iset.specs.Tidy.{RenumberAnswer, propose_call, renumber_call}
use Rattle.iset.specs.Lookup.{StartAnswer, StepAnswer, DrainAnswer, start_call, step_call, drain_call}
use Rattle.iset.specs.Tallies.{TallyAnswer}
use Rattle.iset.specs.Plain.{plain_call}
use Rattle.iset.specs.Find.{find_all_call}
use Rattle.iset.specs.Maps.{empty_map}
use Rattle.iset.specs.Ticket.{ReadAnswer, read_call}
use Rattle.image_rule.specs.Layout.{image_length_lem}
use Rattle.iset.specs.Image.{WriteAnswer, write_image_call, read_image_call}
use Rattle.iset.specs.declared.Map.{Map}
use Rattle.iset.specs.declared.ticket.Ticket.{Ticket}
use Rattle.iset.specs.Sequence.{State}
use Rattle.disjoint.specs.Point.{PointAnswer, point_call}
use Rattle.disjoint.specs.Place.{place_call}
use Rattle.image_host.specs.Host.{host_count, host_number, host_value}
use Rattle.test_document.specs.Stores.{build_in_lem, ◌plus◌, tree_of, touched, bound_of}

-- a pair (old slot, new slot)
infix 70 ◌to◌
abbrev pub ◌to◌ : (old new : ℕ) → Pair
◌to◌ a b = record { old = a; new = b }

-- the three pairs from those that are used: "unused pairs are (U, U)"
abbrev pub moved : (pairs : List Pair) → Pairs
moved [] = record { first = none; second = none; third = none }
moved (a ∷ []) = record { first = a; second = none; third = none }
moved (a ∷ b ∷ []) = record { first = a; second = b; third = none }
moved (a ∷ b ∷ c ∷ l) = record { first = a; second = b; third = c }

-- the colour bytes, where there is one
abbrev pub colours : (byte : ℕ) → List ℕ
colours b = b ∷ []

-- "Each step answers a hit with its slot, or the end, with .. the nodes entered in this call"; or
-- it is refused, with the refusal's number
pub data Outcome : Type 0 where
  hit : (slot : ℕ) → Outcome
  end : Outcome
  refused : (number : ℕ) → Outcome

infix 70 ◌entering◌
pub data Step : Type 0 where
  ◌entering◌ : (outcome : Outcome) (count : ℕ) → Step

-- What is asked. A build has so many words and so many bytes, all of them 0. `root_right` asks for
-- the root's right link, `slot` for the eight words of a slot, `sixes` for the eight-word form of
-- words that have six a slot. A lookup runs from its fresh cursor to the end, `ruled` by the rule
-- of a number; a step is its first step; a drain is one call, from a cursor, with a limit and an
-- output. `unload` is by the rule of a number too, `renumber` by a plan. `write` writes the image
-- into so many places, `reload` reads what was written in the place of a map, into words and
-- colours. `ask` asks an address, and the value of a number among its entries, of what was written.
-- `point` and `place` are the lookup and the insertion of a disjoint map.
pub data Call : Type 0 where
  build : (words bytes : ℕ) (triples : List ℕ) → Call
  remove : (store : State) (slot : ℕ) → Call
  insert : (store : State) (entry : Entry) → Call
  unload : (store : State) (rule : ℕ) (lo hi : Bound ℕ) → Call
  propose : (store : State) (out : List ℕ) → Call
  renumber : (store : State) (plan : List ℕ) → Call
  root_right : (store : State) → Call
  slot : (store : State) (slot : ℕ) → Call
  sixes : (words : List ℕ) → Call
  overlap : (store : State) (lo hi : Bound ℕ) → Call
  ruled : (store : State) (rule : ℕ) (lo hi : Bound ℕ) → Call
  step : (store : State) (lo hi : Bound ℕ) → Call
  drain : (store : State) (lo hi : Bound ℕ) (cursor : Cursor) (limit : ℕ) (out : List ℕ) → Call
  exact : (store : State) (interval : Interval) → Call
  plain : (store : State) (query : Query) (out : List ℕ) → Call
  find_all_lem : (store : State) (query : Query) (out : List ℕ) → Call
  read : (store : State) (ticket : Ticket) → Call
  write : (store : State) (places : ℕ) → Call
  reload : (store : State) (map : Map) (words colours : List ℕ) → Call
  ask : (store : State) (address index : ℕ) → Call
  point : (store : State) (address : ℕ) → Call
  place : (store : State) (entry : Entry) → Call

-- what a build or an insertion leaves; the tree says which node has which children
pub record Left : Type 0 where
  pub tree : Tree
  pub bytes : List ℕ
  pub h : ℕ
  pub words : List ℕ

-- what a lookup finds: step by step, and by a drain with the limit 0, the slots that it writes and
-- the nodes that it enters
pub record Found : Type 0 where
  pub steps : List Step
  pub hits : List ℕ
  pub entered : ℕ

-- t, and the bound
pub record Limits : Type 0 where
  pub t : ℕ
  pub bound : ℕ

-- What is told. Of a build, a removal, an insertion, an unloading and a renumbering: the answer,
-- and what it leaves, of a removal and an unloading the colour bytes. Of a proposal: its number and
-- the output. Of an overlap lookup: what is found, t and the bound; of its first step: the whole
-- answer; of a drain, a plain lookup and a fast one: the answer and the output. Of an exact lookup:
-- the answer of `fresh_exact`, and what is found from its cursor on. Of a reading through a ticket,
-- and of writing an image: the whole answer. Of reading an image: the answer, and what it leaves.
-- Of an address asked of an image: the three numbers. Of the calls of a disjoint map: the answer.
pub data Told : Type 0 where
  built : (answer : BuildAnswer) (left : Left) → Told
  removed : (answer : RemoveAnswer) (colours : List ℕ) → Told
  inserted : (answer : InsertAnswer) (left : Left) → Told
  unloaded : (answer : UnloadAnswer) (colours : List ℕ) → Told
  proposed : (number : ℕ) (output : List ℕ) → Told
  renumbered : (answer : RenumberAnswer) (words colours : List ℕ) → Told
  link : (link : ℕ) → Told
  holds : (words : List ℕ) → Told
  found : (found : Found) (limits : Limits) → Told
  stepped : (answer : StepAnswer) → Told
  drained : (answer : DrainAnswer) (output : List ℕ) → Told
  started : (answer : StartAnswer) (found : Found) → Told
  looked : (answer : TallyAnswer) (output : List ℕ) → Told
  given : (answer : ReadAnswer) → Told
  saved : (answer : WriteAnswer) → Told
  loaded : (answer : BuildAnswer) (words colours : List ℕ) → Told
  hosted : (count value number : ℕ) → Told
  pointed : (answer : PointAnswer) → Told
  placed : (answer : InsertAnswer) → Told

infix 68 ◌gives◌
pub data Row : Type 0 where
  ◌gives◌ : (call : Call) (told : Told) → Row

-- of a step's answer: what it is
unfoldable pub outcome : (answer : StepAnswer) → Outcome
outcome a = cond (eqb a.no 0) (cond a.hit (hit a.slot) end) (refused a.no)

-- the steps from a cursor on, up to the first that is no hit, and k at the most
unfoldable pub steps_from : (store : State) (query : Query) (steps : ℕ) (cursor : Cursor) → List Step
steps_from t q zero c = []
steps_from t q (suc k) c =
    let a : StepAnswer = step_call t.map t.words t.colours q c in
    let rest : List Step = steps_from t q k a.next in
    (outcome a entering a.entered) ∷ cond a.hit rest []

-- from a cursor on, with the limit 0 and an output of 64 places, more than the stores have entries
unfoldable pub found_from : (store : State) (query : Query) (cursor : Cursor) → Found
found_from t q c =
    let d : Output DrainAnswer = drain_call t.map t.words t.colours q c 0 (replicate 64 0) in
    record { steps = steps_from t q (suc t.map.count) c; hits = take d.answer.hits d.output; entered = d.answer.entered }

abbrev pub span : (lo hi : Bound ℕ) → Span
span lo hi = record { lo = lo; hi = hi }

unfoldable pub left_in_lem : (store : State) → Left
left_in_lem t = record { tree = tree_of t; bytes = t.colours; h = height (tree_of t); words = t.words }

-- what a lookup for a range tells
abbrev pub found_in : (store : State) (lo hi : Bound ℕ) (query : Query) → Told
found_in t lo hi q =
    found (found_from t q (fresh t.map.root)) (record { t = touched t (span lo hi); bound = bound_of t (span lo hi) })

-- what a lookup tells that finds all hits at once
abbrev pub looked_by : (output : Output TallyAnswer) → Told
looked_by d = looked d.answer d.output

-- what the rules of the public calls tell
unfoldable pub tell : (call : Call) → Told
tell (build words bytes S) = built (build_call empty_map (replicate words 0) (replicate bytes 0) S).answer (left_in_lem (build_in_lem words bytes S))
tell (remove t s) =
    let r : Effect RemoveAnswer = remove_call t.map t.words t.colours s in
    removed r.answer r.colours
tell (insert t e) = inserted (insert_call t.map t.words t.colours e).answer (left_in_lem (t plus e))
tell (unload t k lo hi) =
    let r : Effect UnloadAnswer = unload_call t.map t.words t.colours k (span lo hi) in
    unloaded r.answer r.colours
tell (propose t out) =
    let d : Output ℕ = propose_call t.map t.words t.colours out in
    proposed d.answer d.output
tell (renumber t plan) =
    let r : Effect RenumberAnswer = renumber_call t.map t.words t.colours plan in
    renumbered r.answer r.words r.colours
tell (root_right t) = link (kid t.words false t.map.root)
tell (slot t k) = holds (take (words_of 1) (drop (words_of k) t.words))
tell (sixes W) = holds (as_eight true W)
tell (overlap t lo hi) = found_in t lo hi (Overlap (span lo hi))
tell (ruled t k lo hi) = found_in t lo hi (Ruled k (span lo hi))
tell (step t lo hi) = stepped (step_call t.map t.words t.colours (Overlap (span lo hi)) (fresh t.map.root))
tell (drain t lo hi c limit out) =
    let d : Output DrainAnswer = drain_call t.map t.words t.colours (Overlap (span lo hi)) c limit out in
    drained d.answer d.output
tell (exact t x) =
    let a : StartAnswer = start_call t.map t.words t.colours x in
    started a (found_from t (Exact x) a.cursor)
tell (plain t q out) = looked_by (plain_call t.map t.words t.colours q out)
tell (find_all_lem t q out) = looked_by (find_all_call t.map t.words t.colours q out)
tell (read t c) = given (read_call t.map t.words t.colours c)
tell (write t places) = saved (write_image_call t.map t.words t.colours (replicate places 0)).answer
tell (reload t m W C) =
    let d : Output WriteAnswer = write_image_call t.map t.words t.colours (replicate (image_length_lem t.map.count) 0) in
    let r : Effect BuildAnswer = read_image_call m W C d.output in
    loaded r.answer r.words r.colours
tell (ask t address index) =
    let d : Output WriteAnswer = write_image_call t.map t.words t.colours (replicate (image_length_lem t.map.count) 0) in
    hosted (host_count d.output address) (host_value d.output address index) (host_number d.output address index)
tell (point t address) = pointed (point_call t.map t.words t.colours address)
tell (place t e) = placed (place_call t.map t.words t.colours e).answer

-- a row holds if the rules tell what it says; a table, if each of its rows holds
abbrev pub Holds : (row : Row) → Type 0
Holds (c gives a) = tell c ≡ a

abbrev pub Each : (rows : List Row) → Type 0
Each [] = Unit {0}
Each (r ∷ rows) = Holds r × Each rows
