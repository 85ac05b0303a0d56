use Rattle.image_text.specs.Reading.{head_item_lem}
use Rattle.words.proofs.Tests.{equal, unequal}
use Rattle.image_text.proofs.Arms.{staged}
use Rattle.image_text.proofs.reading.State.head_item.Goals as goal

pub returns-then-self-eq0 : goal.returns-then-self-eq0
unfolding head_item_lem
returns-then-self-eq0 c = search (equal, staged)

pub returns-then-self-eq1 : goal.returns-then-self-eq1
unfolding head_item_lem
returns-then-self-eq1 c = search (unequal, equal, staged)

pub returns-then-self-eq2 : goal.returns-then-self-eq2
unfolding head_item_lem
returns-then-self-eq2 c = search (unequal, equal, staged)

pub returns-else-self-eq2 : goal.returns-else-self-eq2
unfolding head_item_lem
returns-else-self-eq2 c = search unequal
