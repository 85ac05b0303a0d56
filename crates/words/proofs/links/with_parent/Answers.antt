use Rattle.words.specs.Layouts.{field_put}
use Rattle.words.proofs.links.with_parent.Goals as goal

pub returns : goal.returns
unfolding field_put
returns c = rw c.narrowed.ensures.0
