use Rattle.iset_c.specs.Replies.{drain_exit}
use Rattle.iset_c.proofs.Laws.{bounded_drain}
use Rattle.iset_c.proofs.lookup.drain_in.Goals as goal

pub returns : goal.returns
returns c = search (bounded_drain drain_exit)
