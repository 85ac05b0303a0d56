use Rattle.std.proofs.Common.{ℕ, refl, sym}
use Rattle.std.proofs.lemmas.List.{length-replicate}
use Rattle.image_text.proofs.memory.image_bytes.Goals as goal

pub returns : goal.returns
returns c = (refl, sym (length-replicate {A = ℕ} 505794 0))
