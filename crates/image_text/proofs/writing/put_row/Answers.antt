use Rattle.image_text.proofs.Pages.{row_is}
use Rattle.image_text.proofs.writing.put_row.Goals as goal

pub returns : goal.returns
returns c = search row_is
