use Rattle.words.proofs.Tests.{less, not_less}
use Rattle.slotlist_core.specs.Working.{room_for}
use Rattle.slotlist_core.proofs.working.has_room.Goals as goal

pub returns-then-n-lt256 : goal.returns-then-n-lt256
unfolding room_for
returns-then-n-lt256 c = search less

pub returns-else-n-lt256 : goal.returns-else-n-lt256
unfolding room_for
returns-else-n-lt256 c = search not_less
