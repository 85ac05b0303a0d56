use mathlib.Core.Path.{◌≡◌, refl}
use mathlib.Core.Bool.{true}
use Rattle.words.specs.Layouts.{field_in, field_fits}
use Rattle.words.proofs.Layouts.{arm_read, arm_fits, own_word}
use Rattle.words.proofs.node.Field.read_in.Goals as goal

pub returns-in-Start : goal.returns-in-Start
unfolding field_in
returns-in-Start c = (own_word (λ f. c.args.w ≡ field_in f c.args.w) c.args.self c.in-Start.is refl refl refl refl refl, own_word (λ f. field_fits true f c.args.w ≡ true) c.args.self c.in-Start.is refl refl refl refl refl)

pub returns-in-Parent : goal.returns-in-Parent
unfolding field_in
returns-in-Parent c = (search arm_read, search arm_fits)
