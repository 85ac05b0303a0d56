use Rattle.plan_text.specs.Text.{again_text}
use Rattle.plan_text.proofs.Pages.{in_six}
use Rattle.plan_text.proofs.writing.put_again.Goals as goal

pub returns : goal.returns
unfolding again_text
returns c = search in_six
