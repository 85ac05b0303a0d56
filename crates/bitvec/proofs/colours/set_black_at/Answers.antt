use Rattle.bitvec.specs.Colours.{paint_at}
use Rattle.words.proofs.Laws.{linked, unlinked}
use Rattle.bitvec.proofs.colours.set_black_at.Goals as goal

pub returns-in_default : goal.returns-in_default
unfolding paint_at
returns-in_default c = search unlinked

pub returns : goal.returns
unfolding paint_at
returns c = search linked
