use Rattle.lines.proofs.Laws.{too_great, one_more}
use Rattle.lines.proofs.input.append_digit.Goals as goal

pub returns-in_err-checked_mul : goal.returns-in_err-checked_mul
returns-in_err-checked_mul c = too_great _ _ _ c.in_err-checked_mul.ensures c.from_residual.ensures

pub returns : goal.returns
returns c = one_more _ _ _ _ c.in_ok-checked_mul.ensures.1 c.checked_add.ensures
