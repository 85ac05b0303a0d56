use native.Mathlib.Omega.{arith}
use Rattle.words.proofs.Layouts.{none_fits}
use Rattle.test_limits.proofs.Laws.{either_kid, either_up}
use borrow.Author.Rules.{rules}
use Rattle.test_limits.proofs.put_link.Goals as goal

pub put_node-requires : goal.put_node-requires
put_node-requires c = ((omega arith, omega arith, omega arith), search none_fits, search either_kid, search either_up)
