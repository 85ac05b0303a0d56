-- Document 02, item 11: a second range rule beside the crate's. "Callers choose the rule by number,
-- 1 or 2".
-- Letters: m map, W words, C colours, s slot, q range, c cursor, k number of a refusal, a answer,
--   P proof that the store passes, l calls
use Rattle.std.specs.Prelude.{◌≡◌, ℕ, ◌<◌, ◌≤◌, true, ◌↔◌, List, length}
use Rattle.words.specs.Nodes.{interval}
use Rattle.words.specs.declared.interval.Span.{Span}
use Rattle.tree.specs.Passes.{Passes}
use Rattle.image_rule.specs.Written.{Words}
use Rattle.iter.specs.Ranges.{by_rule_lem}
use Rattle.iter.specs.Cursors.{fresh}
use Rattle.iter.specs.Overlap.{meets}
use Rattle.iter.specs.declared.Cursor.{Cursor}
use Rattle.iter.specs.declared.rules.Query.TheVariants.{Overlap, Ruled}
use Rattle.iter_laws.specs.Addresses.{Shared}
use Rattle.iset.specs.Check.{check_rule}
use Rattle.iset.specs.Lookup.{step_call, drain_call}
use Rattle.iset.specs.Plain.{plain_call}
use Rattle.iset.specs.Find.{find_all_call}
use Rattle.iset.specs.Refusals.{BadRuled}
use Rattle.iset.specs.Runs.{Ask, RangeRun}
use Rattle.iset.specs.PlainRuns.{PlainRun}
use Rattle.iset.specs.FindRuns.{FindAllRun}
use Rattle.iset.specs.declared.Map.{Map}

pub record Request11 (m : Map) (W C : List ℕ) : Type 0 where
  -- "rule 1 stays the default": every lookup answers and writes the same
  pub default_step : (q : Span) (c : Cursor) → step_call m W C (Ruled 1 q) c ≡ step_call m W C (Overlap q) c
  pub default_drain : (q : Span) (c : Cursor) (limit : ℕ) (out : List ℕ) → drain_call m W C (Ruled 1 q) c limit out ≡ drain_call m W C (Overlap q) c limit out
  pub default_plain : (q : Span) (out : List ℕ) → plain_call m W C (Ruled 1 q) out ≡ plain_call m W C (Overlap q) out
  pub default_find : (q : Span) (out : List ℕ) → find_all_call m W C (Ruled 1 q) out ≡ find_all_call m W C (Overlap q) out
  -- "Pruning, entered nodes and the touching count stay as they are under both; demand 3's list and
  -- count are proved once over both rules": `Overlap q` in the place of `Ruled 1 q` gives Demand3's
  -- record
  pub ruled : check_rule m W C ≡ 0 → (k : ℕ) (q : Span) → (BadRuled k q → ⊥) → (P : Passes W C m.count m.root) (l : List Ask)
      → RangeRun m W C (Ruled k q) k q P.tree l
  -- the plain and the fast lookup find the same entries
  pub plain : check_rule m W C ≡ 0 → (k : ℕ) (q : Span) → (BadRuled k q → ⊥) → (P : Passes W C m.count m.root) (out : List ℕ)
      → m.count ≤ length out → PlainRun m W C (Ruled k q) (fresh m.root) (meets W (by_rule_lem k q)) P.tree out
  pub fast : check_rule m W C ≡ 0 → (k : ℕ) (q : Span) → (BadRuled k q → ⊥) → (P : Passes W C m.count m.root) (out : List ℕ)
      → FindAllRun m W C (Ruled k q) (fresh m.root) (meets W (by_rule_lem k q)) P.tree out
  -- by rule 2 "an entry intersects if some whole address from 0 to 18446744073709551615 lies in
  -- both"
  pub whole : Passes W C m.count m.root → Words W → (q : Span) → (BadRuled 2 q → ⊥) → (s : ℕ) → s < m.count
      → (meets W (by_rule_lem 2 q) s ≡ true) ↔ ((a : ℕ) × Shared q (interval W s) a)
  -- so no rule finds what rule 1 does not find
  pub part : (k : ℕ) (q : Span) (s : ℕ) → meets W (by_rule_lem k q) s ≡ true → meets W q s ≡ true
  -- a range that holds a whole address is ordered: rule 2 refuses every range that rule 1 refuses
  pub stricter : (q : Span) → BadRuled 1 q → BadRuled 2 q
