-- Document 02, item 13, as one statement about what the public calls answer and leave: unloading
-- everything in a range. `proofs/Unloads` proves it.
-- Letters: S state, k rule, j second rule, q range, p other or second range, E entries before,
--   e entry, c effect, P proof that the store passes
use Rattle.std.specs.Prelude.{◌≡◌, ℕ, ◌+◌, ◌||◌, List, map, ◌≢◌}
use Rattle.words.specs.Lists.{filter}
use Rattle.words.specs.Nodes.{entry}
use Rattle.words.specs.declared.interval.Span.{Span}
use Rattle.words.specs.declared.node.Entry.{Entry}
use Rattle.tree.specs.Tree.{slots}
use Rattle.tree.specs.Passes.{Passes}
use Rattle.tree_edit.specs.Store.{store}
use Rattle.iter.specs.Ranges.{by_rule_lem}
use Rattle.iter.specs.Overlap.{meets}
use Rattle.iter.specs.Lists.{first_or}
use Rattle.words.specs.Ix.{U}
use Rattle.first_rule.specs.First.{first_in}
use Rattle.unload_rule.specs.Sweep.{Sweep}
use Rattle.unload_rule.specs.Swept.{stay, Swept}
use Rattle.unload_rule.specs.Unload.{within, unload_slots}
use Rattle.iset.specs.Effects.{Effect, effect}
use Rattle.iset.specs.Check.{check_rule}
use Rattle.iset.specs.Maps.{raised_by}
use Rattle.iset.specs.Refusals.{Exactly, BadRuled, unload_rows}
use Rattle.iset.specs.Sequence.{Call, remove, unload, State, answered, all_answered, refusal_of, changes_of, made}
use Rattle.iset.specs.Unload.{UnloadAnswer, refused_unloading, open_unload_call, unload_call}

-- the store of a state passes the check
abbrev pub Good : (state : State) → Type 0
Good S = Passes S.words S.colours S.map.count S.map.root

-- the call in a state, and what it answers and leaves in the form of its rule
abbrev pub unload_in_lem : (state : State) (rule : ℕ) (range : Span) → Effect UnloadAnswer
unload_in_lem S k q = unload_call S.map S.words S.colours k q

abbrev pub unloading : (state : State) (rule : ℕ) (range : Span) → Sweep
unloading S k q =
    let c : Effect UnloadAnswer = unload_in_lem S k q in
    record { store = store c.words c.colours c.answer.map.root; count = c.answer.map.count; gone = c.answer.gone }

-- the slots that it removes, one after the other, each as it is then
abbrev pub removals : (state : State) (rule : ℕ) (range : Span) → List Call
removals S k q = map remove (unload_slots S.words S.colours S.map.count S.map.root (by_rule_lem k q))

-- two ranges, one after the other, and how many entries went
abbrev pub after_both : (state : State) (rule : ℕ) (range : Span) (second : ℕ) (other : Span) → State
after_both S k q j p = answered (answered S (unload k q)) (unload j p)

abbrev pub both_gone : (state : State) (rule : ℕ) (range : Span) (second : ℕ) (other : Span) → ℕ
both_gone S k q j p = changes_of S (unload k q) + changes_of (answered S (unload k q)) (unload j p)

-- the store of a state passes the check, and these are its entries in tree order
pub record Holding (S : State) (E : List Entry) : Type 0 where
  pub passes : Good S
  pub entries : map (entry S.words) (slots passes.tree) ≡ E

-- "unloading two accepted ranges in either order leaves the same entries in the same tree order,
-- though slots may differ, and the two removed totals are equal. In both orders the entries left
-- are exactly those that intersect neither." Before, the entries are E.
pub record EitherOrder (S : State) (k : ℕ) (q : Span) (j : ℕ) (p : Span) (E : List Entry) : Type 0 where
  -- the second range is accepted after the first
  pub accepted : refusal_of (answered S (unload k q)) (unload j p) ≡ 0
  pub accepted_other : refusal_of (answered S (unload j p)) (unload k q) ≡ 0
  pub one : Holding (after_both S k q j p) (stay (λ e. within (by_rule_lem k q) e || within (by_rule_lem j p) e) E)
  pub other : Holding (after_both S j p k q) (stay (λ e. within (by_rule_lem k q) e || within (by_rule_lem j p) e) E)
  pub totals : both_gone S k q j p ≡ both_gone S j p k q

-- S is any state with a 32-bit version
pub record Request13 (S : State) : Type 0 where
  -- "Refusals: 1, 2, 4", and a refused call leaves everything
  pub refusals : (k : ℕ) (q : Span) → Exactly (unload_rows S.map S.words S.colours k q) (unload_in_lem S k q).answer.no
  pub refused : (k : ℕ) (q : Span) → ((unload_in_lem S k q).answer.no ≢ 0)
      → unload_in_lem S k q ≡ effect (refused_unloading S.map (unload_in_lem S k q).answer.no) S.words S.colours
  -- "The rest keep their order": what is left passes the check, and has exactly the entries that do
  -- not intersect the range by its rule; `gone` is how many do
  pub unloads : (k : ℕ) (q : Span) → (unload_in_lem S k q).answer.no ≡ 0 → (P : Good S)
      → Swept S.words S.colours S.map.count S.map.root (within (by_rule_lem k q)) P (unloading S k q)
  pub passes : (k : ℕ) (q : Span) → (unload_in_lem S k q).answer.no ≡ 0
      → let T = answered S (unload k q) in check_rule T.map T.words T.colours ≡ 0
  -- "The version rises by the number removed"; and if none is, all is as it was
  pub version : (k : ℕ) (q : Span) → (unload_in_lem S k q).answer.map.version ≡ raised_by S.map.version (unload_in_lem S k q).answer.gone
  pub none : (k : ℕ) (q : Span) → (unload_in_lem S k q).answer.gone ≡ 0 → answered S (unload k q) ≡ S
  -- "Remove the first intersecting entry in tree order, over and over": the call does what public
  -- removals do one after the other, each of which is a change. `first_in` names the slot of the
  -- first, U if no entry intersects.
  pub first : (q : Span) → check_rule S.map S.words S.colours ≡ 0 → (P : Good S)
      → first_in q S.words S.map.count S.map.root ≡ first_or U (filter (meets S.words q) (slots P.tree))
  pub steps : (k : ℕ) (q : Span) → (unload_in_lem S k q).answer.no ≡ 0
      → (answered S (unload k q) ≡ all_answered S (removals S k q)) × (made S (removals S k q) ≡ (unload_in_lem S k q).answer.gone)
  pub either : (k : ℕ) (q : Span) (j : ℕ) (p : Span) → check_rule S.map S.words S.colours ≡ 0
      → (BadRuled k q → ⊥) → (BadRuled j p → ⊥) → (P : Good S) → EitherOrder S k q j p (map (entry S.words) (slots P.tree))
  -- the opened call, on a store that passes
  pub opened : (k : ℕ) (q : Span) → check_rule S.map S.words S.colours ≡ 0
      → open_unload_call S.map S.words S.colours k q ≡ unload_in_lem S k q
