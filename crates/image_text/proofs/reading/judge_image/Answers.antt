use Rattle.std.proofs.lemmas.Result.{err_from_is_err_and}
use Rattle.image_text.proofs.Arms.{judge_done, judge_refused}
use Rattle.image_text.proofs.reading.judge_image.Goals as goal

pub returns-in_err-check : goal.returns-in_err-check
returns-in_err-check c =
    let w = c.in_err-check.was in
    let p = err_from_is_err_and c.from_residual.result c.from_residual.ensures.1 in
    rw (p.1, p.2) (search judge_refused)

pub returns : goal.returns
returns c = search (judge_done, c.in_ok-check.was)
