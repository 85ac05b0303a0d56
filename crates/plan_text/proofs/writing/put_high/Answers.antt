use Rattle.plan_text.specs.Text.{high_text}
use Rattle.plan_text.proofs.Pages.{in_five}
use Rattle.plan_text.proofs.writing.put_high.Goals as goal

pub returns : goal.returns
unfolding high_text
returns c = search in_five
