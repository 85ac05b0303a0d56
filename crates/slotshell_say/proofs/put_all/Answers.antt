use native.Mathlib.Omega.{arith}
use Rattle.slotshell_say.proofs.Laws.{said_on, said_end}
use Rattle.slotshell_say.proofs.put_all.Goals as goal

pub loop-b-preserved : goal.loop-b-preserved
loop-b-preserved c = (omega arith, omega arith, search said_on)

pub returns : goal.returns
returns c = search said_end
