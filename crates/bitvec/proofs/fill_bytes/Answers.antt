use Rattle.bitvec.proofs.Laws.{filled}
use Rattle.bitvec.proofs.fill_bytes.Goals as goal

pub returns : goal.returns
returns c = filled _ _ _ _ c.requires (c.fill.ensures.after (λ _ e. e))
