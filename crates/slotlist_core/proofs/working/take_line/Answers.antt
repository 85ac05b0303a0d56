use Rattle.std.proofs.lemmas.Result.{err_from_is_err_and}
use Rattle.slotlist_core.proofs.Arms.{taken_none}
use Rattle.slotlist_core.proofs.working.take_line.Goals as goal

pub returns-in_err-work : goal.returns-in_err-work
returns-in_err-work c =
    let w = c.in_err-work.was in
    let p = err_from_is_err_and c.from_residual.result c.from_residual.ensures.1 in
    rw (p.1, p.2) (search taken_none)
