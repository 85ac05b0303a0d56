use Rattle.image_text.proofs.Arms.{counted_on, counted_off}
use Rattle.image_text.proofs.reading.State.counted.Goals as goal

pub returns-in-Some : goal.returns-in-Some
returns-in-Some c = search counted_on

pub returns-in-None : goal.returns-in-None
returns-in-None c = search counted_off
