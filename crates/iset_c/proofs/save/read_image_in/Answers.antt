use mathlib.Core.Path.{refl}
use Rattle.iset.specs.Build.{build_answer}
use Rattle.iset_c.specs.Replies.{build_reply, map_numbers}
use Rattle.iset_c.proofs.Laws.{told_effect}
use Rattle.iset_c.proofs.save.read_image_in.Goals as goal

pub returns : goal.returns
returns c = search (told_effect build_answer build_reply map_numbers (λ g x. refl) (λ g y. refl))
