use Rattle.lines.specs.Input.{closed}
use Rattle.lines.proofs.Laws.{past_end}
use Rattle.words.proofs.Laws.{there, missing}
use borrow.Author.Rules.{rules}
use Rattle.lines.proofs.input.Line.close.Goals as goal

pub returns-then-numbers-n : goal.returns-then-numbers-n
unfolding closed
returns-then-numbers-n c = (search missing, search past_end)

pub returns : goal.returns
unfolding closed
returns c = (search there, search rules)
