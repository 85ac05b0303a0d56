use Rattle.std.proofs.lemmas.Result.{err_from_is_err_and}
use Rattle.slotlist_core.proofs.Arms.{remove_done_lem, remove_refused}
use Rattle.slotlist_core.proofs.working.remove_slot.Goals as goal

pub returns-in_err-removed : goal.returns-in_err-removed
returns-in_err-removed c =
    let w = c.in_err-removed.was in
    let p = err_from_is_err_and c.from_residual.result c.from_residual.ensures.1 in
    rw (p.1, p.2) (search remove_refused)

pub returns : goal.returns
returns c = let w = c.in_ok-removed.was in search remove_done_lem
