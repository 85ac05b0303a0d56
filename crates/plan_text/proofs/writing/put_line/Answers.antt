use Rattle.plan_text.specs.Text.{on_line}
use Rattle.image_text.proofs.Pages.{in_three}
use Rattle.plan_text.proofs.writing.put_line.Goals as goal

pub returns : goal.returns
unfolding on_line
returns c = search in_three
