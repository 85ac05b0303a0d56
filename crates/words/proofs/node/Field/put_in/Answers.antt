use mathlib.Core.Path.{◌≡◌, refl}
use Rattle.words.specs.Layouts.{field_put}
use Rattle.words.proofs.Layouts.{own_word}
use Rattle.words.proofs.node.Field.put_in.Goals as goal

pub returns-in-Start : goal.returns-in-Start
unfolding field_put
returns-in-Start c = own_word (λ f. c.args.v ≡ field_put f c.args.w c.args.v) c.args.self c.in-Start.is refl refl refl refl refl
