use Rattle.image.proofs.Writes.{three_fours}
use Rattle.image.proofs.write.put_three.Goals as goal

pub returns : goal.returns
returns c = search three_fours
