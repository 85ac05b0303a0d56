use mathlib.Core.Path.{refl}
use Rattle.iset.specs.Insert.{insert_answer}
use Rattle.iset.specs.declared.insert.Inserted.{Inserted}
use Rattle.iset_c.specs.Replies.{insert_reply, inserted_numbers}
use Rattle.iset_c.proofs.Laws.{told_effect}
use Rattle.iset_c_open.proofs.open_insert_in.Goals as goal

pub returns : goal.returns
returns c = search (told_effect insert_answer insert_reply (λ (a : Inserted). inserted_numbers a.map a.slot a.reach) (λ g x. refl) (λ g y. refl))
