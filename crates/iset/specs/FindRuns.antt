-- What the fast lookup finds and which nodes it enters, beside the other lookups.
-- Letters: m map, W words, C colours, s slot, x interval, q query or range, c cursor, t tree,
--   p test of a slot, P proof that the store passes, l calls
use Rattle.std.specs.Prelude.{◌≡◌, ℕ, ◌≤◌, Bool, List, length}
use Rattle.words.specs.Lists.{filter}
use Rattle.words.specs.declared.interval.Interval.{Interval}
use Rattle.words.specs.declared.interval.Span.{Span}
use Rattle.tree.specs.Tree.{Tree, slots, times}
use Rattle.tree.specs.Passes.{Passes}
use Rattle.iter.specs.Cursors.{fresh, ended}
use Rattle.iter.specs.Overlap.{meets}
use Rattle.iter.specs.Exact.{equals}
use Rattle.iter.specs.declared.Cursor.{Cursor}
use Rattle.iter.specs.declared.rules.Query.{Query}
use Rattle.iter.specs.declared.rules.Query.TheVariants.{Overlap, Exact}
use Rattle.fast_rule.specs.Fast.{fast_nodes, fitted}
use Rattle.iset.specs.Check.{check_rule}
use Rattle.iset.specs.Effects.{output}
use Rattle.iset.specs.Lookup.{start_call}
use Rattle.iset.specs.Refusals.{BadRange, BadInterval}
use Rattle.iset.specs.Runs.{Ask, run}
use Rattle.iset.specs.AtOnce.{handed_out, AtOnce}
use Rattle.iset.specs.Plain.{plain_call}
use Rattle.iset.specs.Find.{find_all_call}
use Rattle.iset.specs.declared.Map.{Map}

-- A fast lookup for q into `out`, in a store with the tree t: p says which entries are asked for, c
-- is the fresh cursor.
pub record FindAllRun (m : Map) (W C : List ℕ) (q : Query) (c : Cursor) (p : ℕ → Bool) (t : Tree) (out : List ℕ) : Type 0 where
  -- it is not refused; it answers the number of all entries that are asked for, writes the first of
  -- them in tree order, as many as the output has places for, and leaves the places past them
  pub told : find_all_call m W C q out
      ≡ output (record { no = 0; hits = length (filter p (slots t)); entered = length (fast_nodes W m.count q m.root) }) (fitted (filter p (slots t)) out)
  -- with a place for each of them it finds what steps, drains and the plain lookup find
  pub at_once : length (filter p (slots t)) ≤ length out → AtOnce m W C q c p t (find_all_call m W C q out)
  pub plain_agrees : length (filter p (slots t)) ≤ length out → (places : List ℕ) → m.count ≤ length places
      → handed_out (find_all_call m W C q out) ≡ handed_out (plain_call m W C q places)
  -- it enters no node twice, and each node that it enters is entered by any steps and drains from
  -- the fresh cursor to the end; so it enters no more nodes than they do
  pub nodes_once : (s : ℕ) → times s (fast_nodes W m.count q m.root) ≤ 1
  pub among : (l : List Ask) → (run m W C q c l).next ≡ ended → (s : ℕ) → times s (fast_nodes W m.count q m.root) ≤ times s (run m W C q c l).nodes
  pub no_more : (l : List Ask) → (run m W C q c l).next ≡ ended → (find_all_call m W C q out).answer.entered ≤ (run m W C q c l).entered

-- So on every store that passes the check, for every accepted query and any output.
pub record FastLookup (m : Map) (W C : List ℕ) : Type 0 where
  pub overlap : check_rule m W C ≡ 0 → (q : Span) → (BadRange q.lo q.hi → ⊥) → (P : Passes W C m.count m.root) (out : List ℕ)
      → FindAllRun m W C (Overlap q) (fresh m.root) (meets W q) P.tree out
  pub exact : check_rule m W C ≡ 0 → (x : Interval) → (BadInterval x.start x.end → ⊥) → (P : Passes W C m.count m.root) (out : List ℕ)
      → FindAllRun m W C (Exact x) (start_call m W C x).cursor (equals W x) P.tree out
