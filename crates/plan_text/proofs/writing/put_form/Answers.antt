use Rattle.plan_text.specs.Text.{form_text}
use Rattle.image_text.proofs.Pages.{then}
use Rattle.plan_text.proofs.writing.put_form.Goals as goal

pub returns : goal.returns
unfolding form_text
returns c = search then
