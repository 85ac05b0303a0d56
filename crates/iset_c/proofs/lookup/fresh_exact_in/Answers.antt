use mathlib.Core.Path.{refl}
use Prim.Native.Nat.{ℕ}
use Rattle.iset.specs.Lookup.{start_answer}
use Rattle.iset_c.specs.Replies.{start_reply, cursor_numbers}
use Rattle.iset_c.proofs.Laws.{told_answer}
use Rattle.iset_c.proofs.lookup.fresh_exact_in.Goals as goal

pub returns : goal.returns
returns c = search (told_answer (λ (g : ℕ). start_answer) start_reply cursor_numbers (λ g x. refl) (λ g y. refl) 0)
