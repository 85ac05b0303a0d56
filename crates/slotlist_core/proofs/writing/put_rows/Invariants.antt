use mathlib.Core.Path.{◌≡◌}
use Prim.Native.Nat.{◌-◌}
use lib.ListN.{length}
use Rattle.lines.specs.Output.{page}
use Rattle.slotlist_core.specs.Text.{rows}
use Rattle.slotlist_core.specs.Writing.{puts}
use Rattle.slotlist_core.proofs.writing.put_rows.Given as goal

abbrev pub invariant-loop-slot : goal.invariant-loop-slot
invariant-loop-slot l =
    (length l.out ≡ length l.initial.out)
    × (puts (page l.at l.initial.out) (rows l.nodes 0 l.count) ≡ puts (page l.to l.out) (rows l.nodes l.slot (l.count - l.slot)))
