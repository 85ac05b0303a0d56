use Rattle.image_text.proofs.Pages.{then}
use Rattle.plan_text.proofs.writing.put_flaw.Goals as goal

pub returns-in-Err : goal.returns-in-Err
returns-in-Err c = rw c.in-Err.is (search then)
