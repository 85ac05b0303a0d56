use Rattle.image_text.specs.Reading.{field}
use Rattle.words.proofs.Tests.{equal, unequal, less, not_less}
use Rattle.image_text.proofs.Arms.{staged}
use Rattle.image_text.proofs.reading.State.field.Goals as goal

pub returns-then-j-eq0 : goal.returns-then-j-eq0
unfolding field
returns-then-j-eq0 c = search (equal, staged)

pub returns-then-j-lt4 : goal.returns-then-j-lt4
unfolding field
returns-then-j-lt4 c = search (unequal, less)

pub returns-then-j-lt7 : goal.returns-then-j-lt7
unfolding field
returns-then-j-lt7 c = search (unequal, less, not_less)

pub returns-else-j-lt7 : goal.returns-else-j-lt7
unfolding field
returns-else-j-lt7 c = search (unequal, not_less)
