-- Document 02, item 5: what the plain lookup finds, beside the lookups by steps and drains.
-- Letters: m map, W words, C colours, x interval, q query or range, c cursor, t tree, p test of a
--   slot, P proof that the store passes
use Rattle.std.specs.Prelude.{◌≡◌, ℕ, ◌≤◌, Bool, List, length}
use Rattle.words.specs.Lists.{filter}
use Rattle.words.specs.declared.interval.Interval.{Interval}
use Rattle.words.specs.declared.interval.Span.{Span}
use Rattle.tree.specs.Tree.{Tree, slots}
use Rattle.tree.specs.Passes.{Passes}
use Rattle.iter.specs.Cursors.{fresh}
use Rattle.iter.specs.Overlap.{meets}
use Rattle.iter.specs.Exact.{equals}
use Rattle.iter.specs.Drains.{filled}
use Rattle.iter.specs.declared.Cursor.{Cursor}
use Rattle.iter.specs.declared.rules.Query.{Query}
use Rattle.iter.specs.declared.rules.Query.TheVariants.{Overlap, Exact}
use Rattle.iset.specs.Check.{check_rule}
use Rattle.iset.specs.Effects.{output}
use Rattle.iset.specs.Lookup.{start_call}
use Rattle.iset.specs.Refusals.{BadRange, BadInterval}
use Rattle.iset.specs.AtOnce.{AtOnce}
use Rattle.iset.specs.Plain.{plain_call}
use Rattle.iset.specs.declared.Map.{Map}

-- A plain lookup for q into `out`, in a store with the tree t: p says which entries are asked for,
-- c is the fresh cursor.
pub record PlainRun (m : Map) (W C : List ℕ) (q : Query) (c : Cursor) (p : ℕ → Bool) (t : Tree) (out : List ℕ) : Type 0 where
  -- it is not refused, and "Its entered count is the map's count"; the places past the hits stay
  pub told : plain_call m W C q out ≡ output (record { no = 0; hits = length (filter p (slots t)); entered = m.count }) (filled (filter p (slots t)) out)
  pub at_once : AtOnce m W C q c p t (plain_call m W C q out)

-- The request, of every store that passes the check, every accepted query and every output with a
-- place for each entry.
pub record Request5 (m : Map) (W C : List ℕ) : Type 0 where
  pub overlap : check_rule m W C ≡ 0 → (q : Span) → (BadRange q.lo q.hi → ⊥) → (P : Passes W C m.count m.root) (out : List ℕ)
      → m.count ≤ length out → PlainRun m W C (Overlap q) (fresh m.root) (meets W q) P.tree out
  pub exact : check_rule m W C ≡ 0 → (x : Interval) → (BadInterval x.start x.end → ⊥) → (P : Passes W C m.count m.root) (out : List ℕ)
      → m.count ≤ length out → PlainRun m W C (Exact x) (start_call m W C x).cursor (equals W x) P.tree out
