use native.Mathlib.Omega.{arith}
use Rattle.plan_text.proofs.Pages.{rows_on, rows_end}
use Rattle.plan_text.proofs.writing.put_plan.Goals as goal

pub loop-old-preserved : goal.loop-old-preserved
loop-old-preserved c = (omega arith, search rows_on)

pub returns : goal.returns
returns c = search rows_end
