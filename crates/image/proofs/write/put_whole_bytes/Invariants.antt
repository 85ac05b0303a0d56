use mathlib.Core.Path.{◌≡◌}
use lib.ListN.{length, take}
use lib.Seq.{sets}
use Rattle.image.proofs.write.put_whole_bytes.Given as goal

abbrev pub invariant-loop-j : goal.invariant-loop-j
invariant-loop-j l = (l.out ≡ sets l.initial.out l.at (take l.j l.colours)) × (length l.out ≡ length l.initial.out)
