use Rattle.image_text.proofs.Arms.{numbered_on, numbered_off}
use Rattle.image_text.proofs.reading.State.numbered.Goals as goal

pub returns-then-eq : goal.returns-then-eq
returns-then-eq c = search numbered_on

pub returns-else-eq : goal.returns-else-eq
returns-else-eq c = search numbered_off
