use mathlib.Core.Path.{◌≡◌}
use Prim.Native.Nat.{◌-◌}
use lib.ListN.{length}
use Rattle.lines.specs.Output.{page, out_text}
use Rattle.image_text.specs.Text.{rows}
use Rattle.image_text.proofs.writing.put_rows.Given as goal

abbrev pub invariant-loop-slot : goal.invariant-loop-slot
invariant-loop-slot l =
    (length l.out ≡ length l.initial.out)
    × (out_text (page l.at l.initial.out) (rows l.image l.count 0 l.count) ≡ out_text (page l.to l.out) (rows l.image l.count l.slot (l.count - l.slot)))
