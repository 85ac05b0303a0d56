use Rattle.image_text.specs.Reading.{named}
use Rattle.words.proofs.Tests.{picked, passed}
use Rattle.image_text.proofs.reading.State.named.Goals as goal

pub returns-then-is_name : goal.returns-then-is_name
unfolding named
returns-then-is_name c = search picked

pub returns-else-is_name : goal.returns-else-is_name
unfolding named
returns-else-is_name c = search passed
