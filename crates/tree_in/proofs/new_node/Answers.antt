use Rattle.tree_in.proofs.Inserts.{node_is}
use Rattle.words.proofs.Layouts.{none_fits}
use native.Mathlib.Omega.{arith}
use borrow.Author.Rules.{rules}
use Rattle.tree_in.proofs.new_node.Goals as goal

pub put_node-requires : goal.put_node-requires
put_node-requires c = (omega arith, search none_fits, search none_fits, search rules)

pub returns : goal.returns
returns c = search node_is
