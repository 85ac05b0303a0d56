use Rattle.iset_c_open.specs.Replies.{open_plain_exit}
use Rattle.iset_c.proofs.Laws.{looked_exit, bounded}
use Rattle.iset_c_open.proofs.scan.open_plain_in.Goals as goal

pub returns : goal.returns
returns c = search (bounded open_plain_exit, looked_exit)
