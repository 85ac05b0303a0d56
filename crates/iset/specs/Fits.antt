-- Document 02, item 8: "The drain's limit 0 meant 64 .. From now on 0 means the output's length".
-- Letters: m map, W words, C colours, k number (the limit less 1), x interval, q query or range,
--   c cursor, P proof that the store passes, d output
use Rattle.std.specs.Prelude.{◌≡◌, ℕ, suc, cond, List, [], length, take, ◌==◌, ◌≢◌}
use Rattle.words.specs.Lists.{filter}
use Rattle.words.specs.declared.interval.Interval.{Interval}
use Rattle.words.specs.declared.interval.Span.{Span}
use Rattle.tree.specs.Tree.{slots}
use Rattle.tree.specs.Passes.{Passes}
use Rattle.iter.specs.Cursors.{fresh}
use Rattle.iter.specs.Drains.{limit_of_lem, filled}
use Rattle.iter.specs.Exact.{equals}
use Rattle.iter.specs.Overlap.{meets}
use Rattle.iter.specs.declared.Cursor.{Cursor}
use Rattle.iter.specs.declared.rules.Query.{Query}
use Rattle.iter.specs.declared.rules.Query.TheVariants.{Overlap, Exact}
use Rattle.iset.specs.Effects.{Output, output}
use Rattle.iset.specs.Check.{check_rule}
use Rattle.iset.specs.Lookup.{step_number, drain_number, start_call, DrainAnswer, drain_call}
use Rattle.iset.specs.Refusals.{BadRange, BadInterval}
use Rattle.iset.specs.declared.Map.{Map}

-- document 01's meaning of a limit, before this request: it stands for `as_before` and
-- `others_as_before` alone
abbrev pub limit_of_01 : (limit : ℕ) → ℕ
limit_of_01 limit = cond (limit == 0) 64 limit

-- the hits `all`, as many of them as the output has places: what a drain with the limit 0 answers
-- and writes
pub record Fits (d : Output DrainAnswer) (all out : List ℕ) : Type 0 where
  pub accepted : d.answer.no ≡ 0
  pub hits : d.answer.hits ≡ length (take (length out) all)
  pub written : d.output ≡ filled (take (length out) all) out

pub record Request8 (m : Map) (W C : List ℕ) : Type 0 where
  -- a drain with the limit 0 is refused exactly as its step is, and so never with 9
  pub fits_number : (q : Query) (c : Cursor) (places : ℕ) → drain_number m W C q c 0 places ≡ step_number m W C q c
  pub never_short : (q : Query) (c : Cursor) (places : ℕ) → drain_number m W C q c 0 places ≢ 9
  -- "Zero should mean as many as fit", from the fresh cursor of an accepted lookup on a checked
  -- store
  pub overlap_fits : check_rule m W C ≡ 0 → (q : Span) → (BadRange q.lo q.hi → ⊥) → (P : Passes W C m.count m.root) (out : List ℕ)
      → Fits (drain_call m W C (Overlap q) (fresh m.root) 0 out) (filter (meets W q) (slots P.tree)) out
  pub exact_fits : check_rule m W C ≡ 0 → (x : Interval) → (BadInterval x.start x.end → ⊥) → (P : Passes W C m.count m.root) (out : List ℕ)
      → Fits (drain_call m W C (Exact x) (start_call m W C x).cursor 0 out) (filter (equals W x) (slots P.tree)) out
  -- "An output of length 0 gets no hits and its cursor back unmoved", from any cursor that is
  -- accepted
  pub no_places : (q : Query) (c : Cursor) → step_number m W C q c ≡ 0 → drain_call m W C q c 0 [] ≡ output (record { no = 0; hits = 0; entered = 0; next = c }) []
  -- the host's log view "passes 64 itself and its output stays the same": the limit 64 means what 0
  -- meant, and no other limit changed its meaning
  pub as_before : (places : ℕ) → limit_of_lem 64 places ≡ limit_of_01 0
  pub others_as_before : (k places : ℕ) → limit_of_lem (suc k) places ≡ limit_of_01 (suc k)
