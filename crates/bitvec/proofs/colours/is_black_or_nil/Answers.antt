use Rattle.bitvec.proofs.Laws.{black_slot, no_slot_black}
use Rattle.bitvec.proofs.colours.is_black_or_nil.Goals as goal

pub returns-in_default : goal.returns-in_default
returns-in_default c = search no_slot_black

pub returns : goal.returns
returns c = search black_slot
