use native.Mathlib.Omega.{arith}
use Rattle.slotlist_core.proofs.Pages.{rows_on, rows_end}
use Rattle.slotlist_core.proofs.writing.put_rows.Goals as goal

pub loop-slot-preserved : goal.loop-slot-preserved
loop-slot-preserved c = (omega arith, search rows_on)

pub returns : goal.returns
returns c = search rows_end
