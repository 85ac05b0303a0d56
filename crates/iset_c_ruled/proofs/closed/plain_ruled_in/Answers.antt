use Rattle.iset_c.specs.Replies.{plain_exit}
use Rattle.iset_c.proofs.Laws.{looked_exit, bounded}
use Rattle.iset_c_ruled.proofs.closed.plain_ruled_in.Goals as goal

pub returns : goal.returns
returns c = search (bounded plain_exit, looked_exit)
