use Rattle.image.proofs.Writes.{three_eights}
use Rattle.image.proofs.write.put_entry.Goals as goal

pub returns : goal.returns
returns c = search three_eights
