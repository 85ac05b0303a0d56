use Rattle.image.proofs.Writes.{header_put}
use Rattle.image.proofs.write.put_header.Goals as goal

pub returns : goal.returns
returns c = search header_put
