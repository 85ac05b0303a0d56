use Rattle.image_text.specs.Reading.{end_of}
use Rattle.words.proofs.Tests.{equal, unequal}
use Rattle.image_text.proofs.reading.end_of.Goals as goal

pub returns-then-place-eq3 : goal.returns-then-place-eq3
unfolding end_of
returns-then-place-eq3 c = search equal

pub returns-else-place-eq3 : goal.returns-else-place-eq3
unfolding end_of
returns-else-place-eq3 c = search unequal
