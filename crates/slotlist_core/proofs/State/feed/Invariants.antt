use mathlib.Core.Path.{◌≡◌}
use lib.ListN.{length, drop}
use Rattle.slotlist_core.specs.Feeding.{stage, fed}
use Rattle.slotlist_core.proofs.State.feed.Given as goal

abbrev pub invariant-loop-b : goal.invariant-loop-b
invariant-loop-b l =
    (length l.nodes ≡ length l.initial.nodes) × (length l.colours ≡ length l.initial.colours) × (length l.entries ≡ length l.initial.entries)
    × (fed (stage l.initial.state l.initial.nodes l.initial.colours l.initial.entries) l.piece ≡ fed (stage l.state l.nodes l.colours l.entries) (drop l.b-index l.piece))
