use mathlib.Core.Path.{refl}
use Rattle.plain.proofs.note.Goals as goal

pub returns-then-hit : goal.returns-then-hit
returns-then-hit c = (rw c.if-hit.true refl, rw c.if-hit.true refl)

pub returns-else-hit : goal.returns-else-hit
returns-else-hit c = (rw c.if-hit.false refl, rw c.if-hit.false refl)
