use Rattle.tree_rm_rule.specs.Reach.{round_at_hulls}
use Rattle.tree_rm_rule.specs.Repair.{round_at_lem}
use Rattle.tree_links.proofs.LinkLaws.{hulls_unlinked, read_unlinked}
use Rattle.tree_rm_repair.proofs.Rounds.{at_sibling, sibling_changes, close_there}
use Rattle.words.proofs.Laws.{slot_live, slot_room}
use native.Mathlib.Omega.{arith}
use Rattle.tree_rm_repair.proofs.round_at.Goals as goal

pub returns-in_default : goal.returns-in_default
unfolding round_at_lem round_at_hulls
returns-in_default c = (search read_unlinked, search hulls_unlinked)

pub child_of-close-requires : goal.child_of-close-requires
unfolding round_at_lem round_at_hulls
child_of-close-requires c = search slot_room

pub child_of-distant-requires : goal.child_of-distant-requires
unfolding round_at_lem round_at_hulls
child_of-distant-requires c = search slot_room

pub case_at-case-requires : goal.case_at-case-requires
unfolding round_at_lem round_at_hulls
case_at-case-requires c = (omega arith, omega arith, search slot_live)

pub act_on-requires : goal.act_on-requires
unfolding round_at_lem round_at_hulls
act_on-requires c = (omega arith, omega arith, omega arith, search slot_live, λ e. close_there _ _ _ _ _ _ _ c.case_at-case.ensures e)

pub returns : goal.returns
unfolding round_at_lem round_at_hulls
returns c = (search at_sibling, search sibling_changes)
