use Rattle.words.proofs.Layouts.{low_widened, high_widened, low_up, widened_fits}
use Rattle.words.proofs.links.widened.Goals as goal

pub returns-then-k-lt65535 : goal.returns-then-k-lt65535
returns-then-k-lt65535 c = (search low_widened, search low_up)

pub returns-else-k-lt65535 : goal.returns-else-k-lt65535
returns-else-k-lt65535 c = (search high_widened, search widened_fits)
