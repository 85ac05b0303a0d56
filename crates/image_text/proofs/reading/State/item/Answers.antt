use Rattle.image_text.specs.Reading.{item}
use Rattle.words.proofs.Tests.{less, not_less}
use Rattle.image_text.proofs.reading.State.item.Goals as goal

pub returns-then-self-lt4 : goal.returns-then-self-lt4
unfolding item
returns-then-self-lt4 c = search less

pub returns-else-self-lt4 : goal.returns-else-self-lt4
unfolding item
returns-else-self-lt4 c = search not_less
