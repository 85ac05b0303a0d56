use Rattle.tree_rm_repair.proofs.Rounds.{two_links}
use Rattle.words.proofs.Layouts.{live_kid}
use native.Mathlib.Omega.{arith}
use borrow.Author.Rules.{rules}
use Rattle.tree_rm_repair.proofs.rotate_two.Goals as goal

pub set_child-requires : goal.set_child-requires
set_child-requires c = (omega arith, omega arith, search live_kid)

pub returns : goal.returns
returns c = (search rules, search two_links)
