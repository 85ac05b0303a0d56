use Rattle.words.proofs.Layouts.{kid_up, kid_narrow}
use Rattle.words.proofs.links.narrowed_child.Goals as goal

pub narrowed-requires : goal.narrowed-requires
narrowed-requires c = search kid_up

pub returns : goal.returns
returns c = (c.narrowed.ensures.0, search kid_narrow)
