-- A lookup on an unchanged store, by public calls one after the other, each from the cursor that
-- the last one answered: steps and drains in any mixture, drains with any limit and any output.
-- Letters: m map, W words, C colours, n count, x call or interval, r rest, i moves, h highest equal
--   node, k slot, s slot, q query or range, c cursor, a answer, t tree, p test of a slot, l calls,
--   d output
use Rattle.std.specs.Prelude.{◌≡◌, ℕ, ◌+◌, ◌-◌, ◌*◌, ◌/◌, ◌<◌, ◌≤◌, Bool, cond, List, [], ◌∷◌, ◌++◌, length, take, ◌==◌, nat_lt}
use Rattle.words.specs.Ix.{U}
use Rattle.words.specs.Lists.{filter}
use Rattle.words.specs.declared.interval.Interval.{Interval}
use Rattle.words.specs.declared.interval.Span.{Span}
use Rattle.tree.specs.Tree.{Tree, leaf, node, height, times}
use Rattle.tree.specs.Tree as tree
use Rattle.iter.specs.Lists.{when}
use Rattle.iter.specs.Cursors.{fresh, ended}
use Rattle.iter.specs.Ranges.{by_rule_lem}
use Rattle.iter.specs.Overlap.{meets}
use Rattle.iter.specs.Exact.{equals}
use Rattle.iter.specs.Walk.{fuel, call, after}
use Rattle.iter.specs.Drains.{limit_of_lem, calls}
use Rattle.iter.specs.Queries.{rules}
use Rattle.iter.specs.declared.Cursor.{Cursor}
use Rattle.iter.specs.declared.rules.Query.{Query}
use Rattle.iter.specs.declared.rules.Query.TheVariants.{Overlap, Exact}
use Rattle.iter_laws.specs.Entered.{entered, overlap_rule, exact_rule, touching}
use Rattle.iter_laws.specs.Highest.{Highest}
use Rattle.iset.specs.Effects.{Output}
use Rattle.iset.specs.Lookup.{beginning, step_number, start_call, step_call, StepAnswer, drain_call, DrainAnswer}
use Rattle.iset.specs.declared.Map.{Map}

-- a call of a lookup: `Map::step`, or `Map::drain` with a limit and an output
pub data Ask : Type 0 where
  step : Ask
  drain : (limit : ℕ) (out : List ℕ) → Ask

-- What a call gives: its refusal's number, 0 for none; the slots handed out, in order, for a drain
-- the first places of its output, as many as it answers hits; the nodes entered, in order, read off
-- the list of its states; the count that it answers; the next cursor.
pub record Given : Type 0 where
  pub no : ℕ
  pub slots : List ℕ
  pub nodes : List ℕ
  pub entered : ℕ
  pub next : Cursor

abbrev pub given : (map : Map) (words colours : List ℕ) (query : Query) (cursor : Cursor)
    (call : Ask) → Given
given m W C q c step =
    let a : StepAnswer = step_call m W C q c in
    record {
      no = a.no;
      slots = when a.hit (a.slot ∷ []);
      nodes = when (a.no == 0) (call W m.count (rules W m.count q) (fuel m.count) c);
      entered = a.entered;
      next = a.next;
    }
given m W C q c (drain limit out) =
    let d : Output DrainAnswer = drain_call m W C q c limit out in
    let a : DrainAnswer = d.answer in
    record {
      no = a.no;
      slots = take a.hits d.output;
      nodes = when (a.no == 0) (calls W m.count (rules W m.count q) (limit_of_lem limit (length out)) c);
      entered = a.entered;
      next = a.next;
    }

-- the calls of a list, from the cursor c: all slots handed out, all nodes entered, the sum of the
-- counts, the last cursor
pub record Run : Type 0 where
  pub slots : List ℕ
  pub nodes : List ℕ
  pub entered : ℕ
  pub next : Cursor

abbrev pub run : (map : Map) (words colours : List ℕ) (query : Query) (cursor : Cursor)
    (calls : List Ask) → Run
run m W C q c [] = record { slots = []; nodes = []; entered = 0; next = c }
run m W C q c (x ∷ l) =
    let a : Given = given m W C q c x in
    let r : Run = run m W C q a.next l in
    record { slots = a.slots ++ r.slots; nodes = a.nodes ++ r.nodes; entered = a.entered + r.entered; next = r.next }

-- 9 for a drain whose output does not hold its limit, else 0
abbrev pub short : (call : Ask) → ℕ
short step = 0
short (drain limit out) = cond (nat_lt (length out) (limit_of_lem limit (length out))) 9 0

-- how many hits a call may hand out
abbrev pub wanted : (call : Ask) → ℕ
wanted step = 1
wanted (drain limit out) = cond (nat_lt (length out) (limit_of_lem limit (length out))) 0 (limit_of_lem limit (length out))

abbrev pub total : (calls : List Ask) → ℕ
total [] = 0
total (x ∷ l) = wanted x + total l

-- What holds of one call from the cursor c.
pub record Sound (m : Map) (W C : List ℕ) (q : Query) (c : Cursor) (x : Ask) : Type 0 where
  -- it is refused with 9 exactly if its output is short, and else not at all
  pub number : (given m W C q c x).no ≡ short x
  -- the count is the number of the nodes
  pub counted : (given m W C q c x).entered ≡ length (given m W C q c x).nodes
  -- the next call takes the cursor that it answers
  pub accepted : step_number m W C q (given m W C q c x).next ≡ 0
  -- after any number of moves from its cursor the stack has at most 32 levels
  pub low : (i : ℕ) → (after W m.count (rules W m.count q) i c).levels ≤ 32

-- of each call of a list
abbrev pub AllSound : (map : Map) (words colours : List ℕ) (query : Query) (cursor : Cursor)
    (calls : List Ask) → Type 0
AllSound m W C q c [] = Unit {0}
AllSound m W C q c (x ∷ l) = Sound m W C q c x × AllSound m W C q (given m W C q c x).next l

-- each output of a list holds its drain's limit
abbrev pub Hold : (calls : List Ask) → Type 0
Hold [] = Unit {0}
Hold (step ∷ l) = Hold l
Hold (drain limit out ∷ l) = (limit_of_lem limit (length out) ≤ length out) × Hold l

-- and no call is refused
abbrev pub NoneRefused : (map : Map) (words colours : List ℕ) (query : Query) (cursor : Cursor)
    (calls : List Ask) → Type 0
NoneRefused m W C q c [] = Unit {0}
NoneRefused m W C q c (x ∷ l) = ((given m W C q c x).no ≡ 0) × NoneRefused m W C q (given m W C q c x).next l

-- A lookup for q by the calls of l, one after the other from the cursor c. `found` lists the slots
-- that are looked for, in tree order; `named` lists the nodes that the entered rule names, in the
-- order in which the walk enters them.
pub record Lookup (m : Map) (W C : List ℕ) (q : Query) (c : Cursor) (found named : List ℕ) (l : List Ask) : Type 0 where
  -- each call as above; none is refused if every output holds its drain's limit
  pub sound : AllSound m W C q c l
  pub none_refused : Hold l → NoneRefused m W C q c l
  -- the hits of all calls together: before the end the first of `found`, at the end exactly all of
  -- them
  pub slots_first : (run m W C q c l).slots ≡ take (total l) found
  pub slots_all : (run m W C q c l).next ≡ ended → (run m W C q c l).slots ≡ found
  -- the nodes entered in all calls together: before the end the first of `named`, at the end
  -- exactly all of them
  pub nodes_first : (rest : List ℕ) × ((run m W C q c l).nodes ++ rest ≡ named)
  pub nodes_all : (run m W C q c l).next ≡ ended → (run m W C q c l).nodes ≡ named
  -- the sum of the answered counts is the number of these nodes
  pub counted : (run m W C q c l).entered ≡ length (run m W C q c l).nodes
  -- the lookup is at its end as soon as more hits were asked for than there are
  pub ends : length found < total l → (run m W C q c l).next ≡ ended

-- each slot below n stands in `found` once if p says so, and else not at all
abbrev pub OnceEach : (count : ℕ) (test : ℕ → Bool) (found : List ℕ) → Type 0
OnceEach n p found = (s : ℕ) → s < n → times s found ≡ cond (p s) 1 0

-- Demand 3: "An overlap lookup from fresh to end on an unchanged checked store of height h hands
-- out exactly the intersecting entries, in tree order, once each; the nodes it enters are exactly
-- those the pruning rules name, at most h + t·h·(h-1)/2, t the entries that meet or touch; h ≤ 32".
-- The tree of the store is t. The query is `Overlap q` or, by the rule k, `Ruled k q`.
pub record RangeRun (m : Map) (W C : List ℕ) (query : Query) (k : ℕ) (q : Span) (t : Tree) (l : List Ask) : Type 0 where
  pub lookup : Lookup m W C query (fresh m.root) (filter (meets W (by_rule_lem k q)) (tree.slots t)) (entered (overlap_rule W q) t) l
  pub once_each : OnceEach m.count (meets W (by_rule_lem k q)) (filter (meets W (by_rule_lem k q)) (tree.slots t))
  -- at the end, and before it
  pub bound : length (run m W C query (fresh m.root) l).nodes ≤ height t + touching W q t * (height t * (height t - 1)) / 2
  pub low : height t ≤ 32

abbrev pub OverlapRun : (map : Map) (words colours : List ℕ) (range : Span) (tree : Tree)
    (calls : List Ask) → Type 0
OverlapRun m W C q t l = RangeRun m W C (Overlap q) 1 q t l

-- "Exact lookup starts at the highest equal node, U if none": it starts at the slot k and goes
-- through the tree u.
pub data Begins (W : List ℕ) (x : Interval) (t : Tree) (k : ℕ) : Tree → Type 0 where
  at_highest : (h : Highest W x t k) → Begins W x t k (node h.left k h.right)
  no_equal : k ≡ U → filter (equals W x) (tree.slots t) ≡ [] → Begins W x t k leaf

-- The same of an exact lookup, from the cursor that `Map::fresh_exact` answers: the equal entries,
-- and the nodes from the highest equal one on.
pub record ExactRun (m : Map) (W C : List ℕ) (x : Interval) (t : Tree) (l : List Ask) : Type 0 where
  pub below : Tree
  pub begins : Begins W x t (beginning m W (Exact x)) below
  pub lookup : Lookup m W C (Exact x) (start_call m W C x).cursor (filter (equals W x) (tree.slots t)) (entered (exact_rule W x) below) l
  pub once_each : OnceEach m.count (equals W x) (filter (equals W x) (tree.slots t))
  pub low : height t ≤ 32
