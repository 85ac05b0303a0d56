use Rattle.std.proofs.lemmas.Result.{err_from_is_err_and}
use Rattle.plan_text.proofs.Arms.{place_on, place_off}
use Rattle.plan_text.proofs.reading.place.Goals as goal

pub returns-in_err-test : goal.returns-in_err-test
returns-in_err-test c =
    let w = c.in_err-test.was in
    let p = err_from_is_err_and c.from_residual.result c.from_residual.ensures.1 in
    rw (p.1, p.2) (search place_off)

pub returns : goal.returns
returns c = search (place_on, c.in_ok-test.was)
