use Rattle.image_text.proofs.Arms.{rooted_on, rooted_off}
use Rattle.image_text.proofs.reading.State.rooted.Goals as goal

pub returns-in-Some : goal.returns-in-Some
returns-in-Some c = search rooted_on

pub returns-in-None : goal.returns-in-None
returns-in-None c = search rooted_off
