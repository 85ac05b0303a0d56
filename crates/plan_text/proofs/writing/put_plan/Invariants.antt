use mathlib.Core.Path.{◌≡◌}
use lib.ListN.{length, drop}
use Rattle.lines.specs.Output.{page, out_text}
use Rattle.plan_text.specs.Text.{rows}
use Rattle.plan_text.proofs.writing.put_plan.Given as goal

abbrev pub invariant-loop-old : goal.invariant-loop-old
invariant-loop-old l =
    (length l.out ≡ length l.initial.out)
    × (out_text (page 0 l.initial.out) (rows 0 l.plan) ≡ out_text (page l.to l.out) (rows l.old (drop l.old l.plan)))
