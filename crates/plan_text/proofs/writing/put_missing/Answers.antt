use Rattle.plan_text.specs.Text.{missing_text}
use Rattle.image_text.proofs.Pages.{then}
use Rattle.plan_text.proofs.writing.put_missing.Goals as goal

pub returns : goal.returns
unfolding missing_text
returns c = search then
