use Rattle.image_text.specs.Text.{head}
use Rattle.image_text.proofs.Pages.{in_five_end}
use Rattle.image_text.proofs.writing.put_head.Goals as goal

pub returns : goal.returns
unfolding head
returns c = search in_five_end
