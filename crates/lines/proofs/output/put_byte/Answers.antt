use Rattle.lines.proofs.Laws.{byte_fits, byte_full}
use Rattle.lines.proofs.output.put_byte.Goals as goal

pub returns-then-at-out : goal.returns-then-at-out
returns-then-at-out c = search byte_fits

pub returns : goal.returns
returns c = search byte_full
