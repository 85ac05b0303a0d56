use mathlib.Core.Path.{refl}
use Rattle.iset.specs.Lookup.{drain_answer}
use Rattle.iter.specs.declared.drain.Drained.{Drained}
use Rattle.iset_c.specs.Replies.{drain_reply, drain_numbers}
use Rattle.iset_c.proofs.Laws.{told_output}
use Rattle.iset_c_open.proofs.call.drain.Goals as goal

pub returns : goal.returns
returns c = search (told_output drain_answer drain_reply (λ (d : Drained). drain_numbers d.hits d.entered d.next) (λ g x. refl) (λ g y. refl))
