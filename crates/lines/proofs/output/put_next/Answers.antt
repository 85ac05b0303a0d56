use Rattle.lines.proofs.Laws.{then_text}
use Rattle.lines.proofs.output.put_next.Goals as goal

pub returns : goal.returns
returns c = search then_text
