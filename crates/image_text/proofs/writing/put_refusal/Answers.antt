use Rattle.image_text.specs.Text.{refusal_text}
use Rattle.image_text.proofs.Pages.{in_three_end}
use Rattle.image_text.proofs.writing.put_refusal.Goals as goal

pub returns : goal.returns
unfolding refusal_text
returns c = search in_three_end
