use Rattle.bitvec.specs.Calls.{bytes_for}
use Rattle.image.proofs.Writes.{image_put}
use borrow.Author.Rules.{rules}
use Rattle.image.proofs.write.write.Goals as goal

pub put_colours-requires : goal.put_colours-requires
unfolding bytes_for
put_colours-requires c = search rules

pub returns : goal.returns
unfolding bytes_for
returns c = search image_put
