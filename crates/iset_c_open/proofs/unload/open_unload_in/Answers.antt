use Rattle.iset_c_open.specs.Replies.{open_unload_exit}
use Rattle.iset_c.proofs.Laws.{bounded_unload}
use Rattle.iset_c_open.proofs.unload.open_unload_in.Goals as goal

pub returns : goal.returns
returns c = search (bounded_unload open_unload_exit)
