use native.Mathlib.Omega.{arith}
use Rattle.tree_links.proofs.LinkLaws.{left_ends, left_low, left_on}
use Rattle.tree_links.proofs.+leftmost_from.Goals as goal

pub returns-then-height-eq0 : goal.returns-then-height-eq0
returns-then-height-eq0 t c = (search left_low, omega arith)

pub returns-in_default : goal.returns-in_default
returns-in_default t c = (search left_ends, omega arith)

pub returns : goal.returns
returns t c = (search left_on, omega arith)
