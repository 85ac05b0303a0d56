use Rattle.iset_c.specs.Replies.{find_all_exit}
use Rattle.iset_c.proofs.Laws.{looked_exit, bounded}
use Rattle.iset_c_ruled.proofs.closed.find_all_ruled_in.Goals as goal

pub returns : goal.returns
returns c = search (bounded find_all_exit, looked_exit)
