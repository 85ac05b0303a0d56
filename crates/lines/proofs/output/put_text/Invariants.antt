use mathlib.Core.Path.{◌≡◌}
use lib.ListN.{drop}
use Rattle.lines.specs.Output.{page, out_text}
use Rattle.lines.proofs.output.put_text.Given as goal

abbrev pub invariant-loop-b : goal.invariant-loop-b
invariant-loop-b l = out_text (page l.at l.initial.out) l.text ≡ out_text (page l.to l.out) (drop l.b-index l.text)
