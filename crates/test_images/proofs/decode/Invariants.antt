use mathlib.Core.Path.{◌≡◌}
use Prim.Native.Nat.{◌+◌, ◌≤◌, ◌-◌}
use lib.ListN.{length}
use Rattle.test_images.proofs.decode.Given as goal

abbrev pub invariant-loop-i : goal.invariant-loop-i
invariant-loop-i l =
    (length l.image ≡ length l.initial.image) × (l.last + 1 ≡ length l.input) × (l.at ≤ l.i) × (l.i ≤ length l.input) × (l.n ≤ 4095)

abbrev pub decreases-loop-i : goal.decreases-loop-i
decreases-loop-i l =
    length l.input - l.i
