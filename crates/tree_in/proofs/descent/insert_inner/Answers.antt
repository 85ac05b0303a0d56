use Rattle.tree_in_rule.specs.Descent.{under}
use Rattle.words.proofs.Laws.{linked, slot_live, unlinked}
use Rattle.words.proofs.Layouts.{kid_up, none_fits, live_up}
use native.Mathlib.Omega.{arith}
use Rattle.tree_in.proofs.descent.insert_inner.Goals as goal

pub returns-in_default : goal.returns-in_default
unfolding under
returns-in_default c = (search unlinked, search (kid_up, none_fits))

pub last_down-requires : goal.last_down-requires
unfolding under
last_down-requires c = (omega arith, search slot_live)

pub returns : goal.returns
unfolding under
returns c = (search linked, search live_up)
