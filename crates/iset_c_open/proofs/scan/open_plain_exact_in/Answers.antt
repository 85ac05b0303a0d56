use Rattle.iset_c.proofs.Laws.{looked_exit}
use Rattle.iset_c_open.proofs.scan.open_plain_exact_in.Goals as goal

pub returns : goal.returns
returns c = search looked_exit
