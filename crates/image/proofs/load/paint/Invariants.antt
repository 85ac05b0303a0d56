use mathlib.Core.Path.{◌≡◌}
use Rattle.image_rule.specs.Stored.{painted}
use Rattle.image.proofs.load.paint.Given as goal

abbrev pub invariant-loop-s : goal.invariant-loop-s
invariant-loop-s l = l.colours ≡ painted l.image l.count l.s l.initial.colours
