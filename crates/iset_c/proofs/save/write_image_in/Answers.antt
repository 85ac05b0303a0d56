use mathlib.Core.Path.{refl}
use Prim.Native.Nat.{ℕ}
use Rattle.iset.specs.Image.{write_answer}
use Rattle.iset_c.specs.Replies.{write_reply, length_numbers}
use Rattle.iset_c.proofs.Laws.{told_output}
use Rattle.iset_c.proofs.save.write_image_in.Goals as goal

pub returns : goal.returns
returns c = search (told_output (λ (g : ℕ). write_answer) write_reply length_numbers (λ g x. refl) (λ g y. refl) 0)
