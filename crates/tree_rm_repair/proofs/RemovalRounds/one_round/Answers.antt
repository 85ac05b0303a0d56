use Rattle.tree_rm_rule.specs.Reach.{round_hulls}
use Rattle.tree_links.proofs.LinkLaws.{hulls_unlinked, read_unlinked}
use Rattle.tree_rm_repair.proofs.Rounds.{at_parent, parent_changes}
use Rattle.tree_rm_rule.specs.Repair.{round}
use Rattle.words.proofs.Laws.{slot_live, slot_room}
use native.Mathlib.Omega.{arith}
use Rattle.tree_rm_repair.proofs.RemovalRounds.one_round.Goals as goal

pub returns-in_default : goal.returns-in_default
unfolding round round_hulls
returns-in_default c = (search read_unlinked, search hulls_unlinked)

pub child_of-requires : goal.child_of-requires
unfolding round round_hulls
child_of-requires c = search slot_room

pub round_at-requires : goal.round_at-requires
unfolding round round_hulls
round_at-requires c = (omega arith, omega arith, search slot_live)

pub returns : goal.returns
unfolding round round_hulls
returns c = (search at_parent, search parent_changes)
