use Rattle.iset_c.specs.Replies.{unload_exit}
use Rattle.iset_c.proofs.Laws.{bounded_unload}
use Rattle.iset_c_ruled.proofs.closed.unload_ruled_in.Goals as goal

pub returns : goal.returns
returns c = search (bounded_unload unload_exit)
