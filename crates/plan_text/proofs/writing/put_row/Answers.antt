use Rattle.plan_text.specs.Text.{row}
use Rattle.image_text.proofs.Pages.{in_three_end}
use Rattle.plan_text.proofs.writing.put_row.Goals as goal

pub returns : goal.returns
unfolding row
returns c = search in_three_end
