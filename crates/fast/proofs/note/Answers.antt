use Rattle.fast.proofs.Writes.{one_more, no_more, put_one, put_none}
use Rattle.fast.proofs.note.Goals as goal

pub returns-then-hit : goal.returns-then-hit
returns-then-hit c = (search one_more, search put_one)

pub returns-else-hit : goal.returns-else-hit
returns-else-hit c = (search no_more, search put_none)
