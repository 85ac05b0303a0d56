use Rattle.tidy_core.proofs.Moving.{settle_all_lem, end_words, end_colours, past_words, past_colours, onward}
use Rattle.tidy_core.proofs.moves.settle_all.Goals as goal

pub loop-init : goal.loop-init
loop-init c = search settle_all_lem

pub returns-then-count-i : goal.returns-then-count-i
returns-then-count-i c = (search past_words, search past_colours)

pub loop-preserved : goal.loop-preserved
loop-preserved c = search onward

pub returns : goal.returns
returns c = (search end_words, search end_colours)
