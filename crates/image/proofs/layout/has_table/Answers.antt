use Rattle.image.proofs.Layouts.{table_is}
use Rattle.image.proofs.layout.has_table.Goals as goal

pub returns : goal.returns
returns c = search table_is
