use Rattle.image.proofs.Writes.{colours_put}
use Rattle.image.proofs.write.put_colours.Goals as goal

pub returns : goal.returns
returns c = search colours_put
