use mathlib.Core.Path.{◌≡◌}
use lib.ListN.{drop}
use Rattle.plan_text.specs.Reading.{first_free_lem}
use Rattle.plan_text.proofs.reading.first_free.Given as goal

abbrev pub invariant-loop-i : goal.invariant-loop-i
invariant-loop-i l =
    (first_free_lem 0 l.plan ≡ first_free_lem l.i (drop l.i l.plan))
