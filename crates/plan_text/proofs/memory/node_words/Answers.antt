use Rattle.std.proofs.Common.{ℕ, refl, sym}
use Rattle.std.proofs.lemmas.List.{length-replicate}
use Rattle.plan_text.proofs.memory.node_words.Goals as goal

pub returns : goal.returns
returns c = (refl, sym (length-replicate {A = ℕ} 393210 0))
