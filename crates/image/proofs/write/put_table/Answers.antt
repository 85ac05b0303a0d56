use Rattle.image.proofs.Writes.{table_put}
use Rattle.image.proofs.write.put_table.Goals as goal

pub returns : goal.returns
returns c = search table_put
