use Rattle.words.proofs.Laws.{linked, unlinked, slot_live}
use Rattle.plain_rule.specs.Tour.{first_of}
use native.Mathlib.Omega.{arith}
use Rattle.plain.proofs.first_slot.Goals as goal

pub returns-in_default : goal.returns-in_default
unfolding first_of
returns-in_default c = search unlinked

pub leftmost_from-requires : goal.leftmost_from-requires
unfolding first_of
leftmost_from-requires c = (omega arith, search slot_live)

pub returns : goal.returns
unfolding first_of
returns c = search linked
