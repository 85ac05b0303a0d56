-- A lookup that finds all hits at once, beside the lookups by steps and drains.
-- Letters: m map, W words, C colours, q query, c cursor, t tree, p test of a slot, l calls,
--   r output or root
use Rattle.std.specs.Prelude.{◌≡◌, ℕ, ◌<◌, ◌≤◌, Bool, List, length, take}
use Rattle.words.specs.Lists.{filter}
use Rattle.tree.specs.Tree.{Tree, slots}
use Rattle.iter.specs.Cursors.{ended}
use Rattle.iter.specs.Drains.{limit_of_lem}
use Rattle.iter.specs.declared.Cursor.{Cursor}
use Rattle.iter.specs.declared.rules.Query.{Query}
use Rattle.iset.specs.Effects.{Output}
use Rattle.iset.specs.Lookup.{DrainAnswer, drain_call}
use Rattle.iset.specs.Runs.{Ask, run, OnceEach}
use Rattle.iset.specs.Tallies.{TallyAnswer}
use Rattle.iset.specs.declared.Map.{Map}

-- the slots that it hands out: the first places of its output, as many as it answers hits; and
-- those of a drain
abbrev pub handed_out : (output : Output TallyAnswer) → List ℕ
handed_out r = take r.answer.hits r.output

abbrev pub drain_slots : (map : Map) (words colours : List ℕ) (query : Query) (cursor : Cursor)
    (limit : ℕ) (out : List ℕ) → List ℕ
drain_slots m W C q c limit out = let r : Output DrainAnswer = drain_call m W C q c limit out in take r.answer.hits r.output

-- The lookup r for q in a store with the tree t: p says which entries are asked for, c is the fresh
-- cursor. The quotations are of document 02, item 5, which asks this of the plain lookup.
pub record AtOnce (m : Map) (W C : List ℕ) (q : Query) (c : Cursor) (p : ℕ → Bool) (t : Tree) (r : Output TallyAnswer) : Type 0 where
  -- "demand 3's list holds for it too": exactly the entries that are asked for, in tree order, once
  -- each
  pub exactly : handed_out r ≡ filter p (slots t)
  pub once_each : OnceEach m.count p (filter p (slots t))
  -- "its list of slots equals that of a fresh drain run to its end": any limit above the number of
  -- hits
  pub drain_agrees : (limit : ℕ) (places : List ℕ) → length (filter p (slots t)) < limit_of_lem limit (length places) → limit_of_lem limit (length places) ≤ length places
      → ((drain_call m W C q c limit places).answer.next ≡ ended) × (handed_out r ≡ drain_slots m W C q c limit places)
  -- and that of any steps and drains from the fresh cursor to the end
  pub run_agrees : (l : List Ask) → (run m W C q c l).next ≡ ended → handed_out r ≡ (run m W C q c l).slots
