use Rattle.std.proofs.lemmas.Result.{err_from_is_err_and}
use Rattle.slotlist_core.proofs.Arms.{build_done, build_refused}
use Rattle.slotlist_core.proofs.working.build.Goals as goal

pub returns-in_err-map : goal.returns-in_err-map
returns-in_err-map c =
    let w = c.in_err-map.was in
    let p = err_from_is_err_and c.from_residual.result c.from_residual.ensures.1 in
    rw (p.1, p.2) (search build_refused)

pub returns : goal.returns
returns c = let w = c.in_ok-map.was in search build_done
