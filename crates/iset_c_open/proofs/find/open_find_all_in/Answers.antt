use Rattle.iset_c_open.specs.Replies.{open_find_all_exit}
use Rattle.iset_c.proofs.Laws.{looked_exit, bounded}
use Rattle.iset_c_open.proofs.find.open_find_all_in.Goals as goal

pub returns : goal.returns
returns c = search (bounded open_find_all_exit, looked_exit)
