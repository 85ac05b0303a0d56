use mathlib.Core.Path.{◌≡◌}
use lib.ListN.{length, drop}
use Rattle.lines.specs.Output.{page}
use Rattle.slotlist_core.specs.Writing.{puts}
use Rattle.slotlist_core.proofs.writing.put_text.Given as goal

abbrev pub invariant-loop-b : goal.invariant-loop-b
invariant-loop-b l =
    (length l.out ≡ length l.initial.out) × (puts (page l.at l.initial.out) l.text ≡ puts (page l.to l.out) (drop l.b-index l.text))
