use Rattle.image_text.proofs.Arms.{link_off, link_on}
use Rattle.image_text.proofs.reading.State.link_field.Goals as goal

pub returns-in_default : goal.returns-in_default
returns-in_default c = search link_off

pub returns : goal.returns
returns c = search link_on
