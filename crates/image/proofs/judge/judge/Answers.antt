use Rattle.image.proofs.Layouts.{bodies}
use Rattle.image.proofs.Judges.{good_is}
use Rattle.image.proofs.judge.judge.Goals as goal

pub is_whole-requires : goal.is_whole-requires
is_whole-requires c = search bodies

pub returns : goal.returns
returns c = search good_is
