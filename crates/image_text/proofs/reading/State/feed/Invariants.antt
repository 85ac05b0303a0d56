use mathlib.Core.Path.{◌≡◌}
use lib.ListN.{length, drop}
use Rattle.image_text.specs.Reading.{stage, fed}
use Rattle.image_text.proofs.reading.State.feed.Given as goal

abbrev pub invariant-loop-b : goal.invariant-loop-b
invariant-loop-b l =
    (length l.image ≡ length l.initial.image)
    × (fed (stage l.initial.state l.initial.image) l.piece ≡ fed (stage l.state l.image) (drop l.b-index l.piece))
