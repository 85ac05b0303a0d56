use mathlib.Core.Path.{refl}
use Rattle.iset.specs.Remove.{remove_answer}
use Rattle.iset.specs.declared.remove.Removed.{Removed}
use Rattle.iset_c.specs.Replies.{remove_reply, removed_numbers}
use Rattle.iset_c.proofs.Laws.{told_effect}
use Rattle.iset_c_disjoint.proofs.open.open_disjoint_remove_in.Goals as goal

pub returns : goal.returns
returns c = search (told_effect remove_answer remove_reply (λ (g : Removed). removed_numbers g.value g.map g.pairs g.reach) (λ g x. refl) (λ g y. refl))
