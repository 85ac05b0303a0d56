use mathlib.Core.Path.{refl}
use Rattle.image_rule.specs.Judge.{whole_at}
use Rattle.image.proofs.judge.is_whole.Goals as goal

pub returns : goal.returns
unfolding whole_at
returns c = rw c.glance_at-found.ensures refl
