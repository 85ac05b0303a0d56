use native.Mathlib.Omega.{arith}
use Rattle.builder.proofs.Levels.{log_zero, log_one, log_more}
use Rattle.builder.proofs.+log_of.Goals as goal

pub returns-then-g-eq0 : goal.returns-then-g-eq0
returns-then-g-eq0 t c = (search log_zero, omega arith)

pub returns-then-m-le1 : goal.returns-then-m-le1
returns-then-m-le1 t c = (search log_one, omega arith)

pub log_of-requires : goal.log_of-requires
log_of-requires t c = (omega arith, omega arith)

pub returns : goal.returns
returns t c = (search log_more, omega arith)
