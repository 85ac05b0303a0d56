use mathlib.Core.Path.{◌≡◌}
use Prim.Native.Nat.{◌≤◌}
use lib.ListN.{length, drop}
use Rattle.lines.specs.Output.{page}
use Rattle.slotshell_say.specs.Said.{out_said}
use Rattle.slotshell_say.proofs.put_all.Given as goal

abbrev pub invariant-loop-b : goal.invariant-loop-b
invariant-loop-b l =
    (l.k ≤ l.b-index) × (length l.out ≡ length l.initial.out)
    × (out_said (page 0 l.initial.out) l.text l.numbers ≡ out_said (page l.to l.out) (drop l.b-index l.text) (drop l.k l.numbers))
