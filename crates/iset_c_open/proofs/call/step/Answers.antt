use mathlib.Core.Path.{refl}
use Rattle.iset.specs.Lookup.{step_answer}
use Rattle.iset_c.specs.Replies.{step_reply, found_numbers}
use Rattle.iset_c.proofs.Laws.{told_answer}
use Rattle.iset_c_open.proofs.call.step.Goals as goal

pub returns : goal.returns
returns c = search (told_answer step_answer step_reply found_numbers (λ g x. refl) (λ g y. refl))
