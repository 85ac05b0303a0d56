use Rattle.tree_in.proofs.InsertRounds.{parent_black_lem, parent_red, root_black, root_changes, below_changes, quiet_black}
use Rattle.words.proofs.Laws.{slot_below, slot_live}
use native.Mathlib.Omega.{arith}
use Rattle.tree_in.proofs.repair.InsertionRounds.one_round.Goals as goal

pub returns-in_default : goal.returns-in_default
returns-in_default c = (search root_black, search root_changes)

pub is_red-requires : goal.is_red-requires
is_red-requires c = search slot_below

pub round_below-requires : goal.round_below-requires
round_below-requires c = (omega arith, omega arith, omega arith, search slot_live)

pub returns-then-is_red : goal.returns-then-is_red
returns-then-is_red c = (search parent_red, search below_changes)

pub returns : goal.returns
returns c = (search parent_black_lem, search quiet_black)
