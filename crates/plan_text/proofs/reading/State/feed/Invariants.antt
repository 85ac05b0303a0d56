use mathlib.Core.Path.{◌≡◌}
use lib.ListN.{length, drop}
use Rattle.plan_text.specs.Reading.{stage, fed}
use Rattle.plan_text.proofs.reading.State.feed.Given as goal

abbrev pub invariant-loop-b : goal.invariant-loop-b
invariant-loop-b l =
    (length l.plan ≡ length l.initial.plan) × (length l.lines ≡ length l.initial.lines)
    × (fed (stage l.initial.state l.initial.plan l.initial.lines) l.piece ≡ fed (stage l.state l.plan l.lines) (drop l.b-index l.piece))
