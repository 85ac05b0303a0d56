use native.Mathlib.Omega.{arith}
use mathlib.Core.Path.{refl}
use lib.ListN.{length-set}
use Rattle.image.proofs.Writes.{bytes_on, bytes_end}
use Rattle.image.proofs.write.put_whole_bytes.Goals as goal

pub loop-j-init : goal.loop-j-init
loop-j-init c = (refl, refl)

pub loop-j-preserved : goal.loop-j-preserved
loop-j-preserved c = (bytes_on _ _ _ _ _ c.loop-j.invariant.0 (omega arith), simp length-set (omega arith))

pub returns : goal.returns
returns c = search bytes_end
