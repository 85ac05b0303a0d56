use Rattle.image_text.proofs.Arms.{entry_off, entry_on}
use Rattle.image_text.proofs.reading.State.entry_field.Goals as goal

pub returns-in_default : goal.returns-in_default
returns-in_default c = search entry_off

pub returns : goal.returns
returns c = search entry_on
