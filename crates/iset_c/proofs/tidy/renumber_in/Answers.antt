use mathlib.Core.Path.{refl}
use Rattle.iset.specs.Tidy.{renumber_answer}
use Rattle.iset_c.specs.Replies.{renumber_reply, map_numbers}
use Rattle.iset_c.proofs.Laws.{told_effect}
use Rattle.iset_c.proofs.tidy.renumber_in.Goals as goal

pub returns : goal.returns
returns c = search (told_effect renumber_answer renumber_reply map_numbers (λ g x. refl) (λ g y. refl))
