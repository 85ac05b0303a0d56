use Rattle.iset_c_open.specs.Replies.{open_drain_exit}
use Rattle.iset_c.proofs.Laws.{bounded_drain}
use Rattle.iset_c_open.proofs.lookup.open_drain_in.Goals as goal

pub returns : goal.returns
returns c = search (bounded_drain open_drain_exit)
