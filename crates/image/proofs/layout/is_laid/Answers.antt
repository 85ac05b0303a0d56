use Rattle.image.proofs.Layouts.{laid_is}
use Rattle.image.proofs.layout.is_laid.Goals as goal

pub returns : goal.returns
returns c = search laid_is
