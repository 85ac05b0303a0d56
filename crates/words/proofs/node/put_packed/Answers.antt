use Rattle.words.proofs.Layouts.{packed_write}
use Rattle.words.proofs.node.put_packed.Goals as goal

pub returns : goal.returns
returns c = search packed_write
