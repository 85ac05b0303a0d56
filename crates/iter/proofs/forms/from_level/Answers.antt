use Rattle.iter.proofs.Laws.{from_level_is}
use Rattle.iter.proofs.forms.from_level.Goals as goal

pub returns : goal.returns
returns c = search from_level_is
