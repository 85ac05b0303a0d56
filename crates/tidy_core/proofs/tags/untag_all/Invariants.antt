use mathlib.Core.Path.{◌≡◌}
use Rattle.words.specs.Layouts.{as_eight}
use Rattle.tidy_rule.specs.Tidy.{untagged}
use Rattle.tidy_core.proofs.tags.untag_all.Given as goal

abbrev pub invariant-loop-s : goal.invariant-loop-s
invariant-loop-s l = as_eight l.narrow l.nodes ≡ untagged l.s (as_eight l.narrow l.initial.nodes)
