use Rattle.std.proofs.lemmas.Result.{err_from_is_err_and}
use Rattle.disjoint.proofs.Laws.{placed_back}
use Rattle.disjoint.proofs.DisjointMap.open_insert_in.Goals as goal

pub returns-in_err-open_insert_in : goal.returns-in_err-open_insert_in
returns-in_err-open_insert_in c =
    let w = c.in_ok-test_place.ensures in
    let v = c.in_err-open_insert_in.ensures in
    let p = err_from_is_err_and c.from_residual-in_err-open_insert_in.result c.from_residual-in_err-open_insert_in.ensures.1 in
    rw p.1 (search placed_back)
