use Rattle.tree_in.proofs.InsertRounds.{at_grandparent, grandparent_changes}
use Rattle.tree_in_rule.specs.InsertRepair.{insert_round_below}
use Rattle.tree_in_rule.specs.Reach.{insert_round_below_hulls}
use Rattle.tree_links.proofs.LinkLaws.{read_unlinked, hulls_unlinked}
use Rattle.words.proofs.Laws.{slot_live, slot_room}
use native.Mathlib.Omega.{arith}
use Rattle.tree_in.proofs.repair.round_below.Goals as goal

pub returns-in_default : goal.returns-in_default
unfolding insert_round_below insert_round_below_hulls
returns-in_default c = (search read_unlinked, search hulls_unlinked)

pub child_of-requires : goal.child_of-requires
unfolding insert_round_below insert_round_below_hulls
child_of-requires c = search slot_room

pub round_at-requires : goal.round_at-requires
unfolding insert_round_below insert_round_below_hulls
round_at-requires c = (omega arith, omega arith, omega arith, omega arith, search slot_live)

pub returns : goal.returns
unfolding insert_round_below insert_round_below_hulls
returns c = (search at_grandparent, search grandparent_changes)
