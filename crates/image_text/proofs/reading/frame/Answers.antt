use Rattle.image_text.proofs.Arms.{framed_is}
use Rattle.image_text.proofs.reading.frame.Goals as goal

pub returns : goal.returns
returns c = search framed_is
