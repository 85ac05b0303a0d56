use mathlib.Core.Path.{refl}
use Rattle.iset.specs.Unload.{unload_answer}
use Rattle.iset.specs.declared.unload.Unloaded.{Unloaded}
use Rattle.iset_c.specs.Replies.{unload_reply, unloaded_numbers}
use Rattle.iset_c.proofs.Laws.{told_effect}
use Rattle.iset_c.proofs.call.unload.Goals as goal

pub returns : goal.returns
returns c = search (told_effect unload_answer unload_reply (λ (g : Unloaded). unloaded_numbers g.map g.gone) (λ g x. refl) (λ g y. refl))
