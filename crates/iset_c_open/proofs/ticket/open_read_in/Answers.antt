use mathlib.Core.Path.{refl}
use Prim.Native.Nat.{ℕ}
use Rattle.iset.specs.Ticket.{read_answer}
use Rattle.iset_c.specs.Replies.{read_reply, entry_numbers_lem}
use Rattle.iset_c.proofs.Laws.{told_answer}
use Rattle.iset_c_open.proofs.ticket.open_read_in.Goals as goal

pub returns : goal.returns
returns c = search (told_answer (λ (g : ℕ). read_answer) read_reply entry_numbers_lem (λ g x. refl) (λ g y. refl) 0)
