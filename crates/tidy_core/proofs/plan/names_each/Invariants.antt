use mathlib.Core.Path.{◌≡◌}
use lib.ListN.{drop}
use Rattle.tidy_rule.specs.Plan.{fits, all_new}
use Rattle.tidy_core.proofs.plan.names_each.Given as goal

abbrev pub invariant-loop-slot : goal.invariant-loop-slot
invariant-loop-slot l = fits l.count l.plan ≡ all_new l.count l.marks (drop l.slot-index l.plan)
