use Rattle.tree_rm_repair.proofs.Rounds.{four_links}
use Rattle.words.proofs.Layouts.{live_kid}
use native.Mathlib.Omega.{arith}
use Rattle.tree_rm_repair.proofs.rotate_four.Goals as goal

pub set_child-requires-2 : goal.set_child-requires-2
set_child-requires-2 c = (omega arith, omega arith, search live_kid)

pub set_child-requires-3 : goal.set_child-requires-3
set_child-requires-3 c = (omega arith, omega arith, search live_kid)

pub returns : goal.returns
returns c = search four_links
