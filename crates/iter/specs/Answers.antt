-- The paper's values of the answers.
-- Letters: d drained, e entered nodes, c cursor
use Rattle.std.specs.Prelude.{Bool, true, false, length}
use Rattle.iter.specs.declared.seek.Step.{Step}
use Rattle.iter.specs.declared.seek.Step.TheVariants.{Hit, End}
use Rattle.iter.specs.declared.drain.Drained.{Drained}
use Rattle.iter.specs.Walk.{Answer, ending, hitting}
use Rattle.iter.specs.Drains as drains

-- a hit: its slot, the next cursor, the nodes entered; the end: U, the ended cursor, the nodes
-- entered
abbrev pub answer : (step : Step) → Answer
answer (Hit c e) = hitting c e
answer (End e) = ending e

-- whether it is a hit: exactly if the slot is live
abbrev pub is_hit_lem : (step : Step) → Bool
is_hit_lem (Hit c e) = true
is_hit_lem (End e) = false

-- "It answers the hits written, the sum entered and the next cursor."
abbrev pub summary : (drained : drains.Drained) → Drained
summary d = record { hits = length d.slots; entered = d.entered; next = d.next }
