use Rattle.tree_in.proofs.Inserts.{hung_is}
use Rattle.tree_in.proofs.hang_red.Goals as goal

pub returns : goal.returns
returns c = search hung_is
