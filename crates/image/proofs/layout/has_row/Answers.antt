use Rattle.image.proofs.Layouts.{row_is}
use Rattle.image.proofs.layout.has_row.Goals as goal

pub returns : goal.returns
returns c = search row_is
