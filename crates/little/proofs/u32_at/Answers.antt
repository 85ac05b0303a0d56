use Rattle.little.proofs.Laws.{read_four}
use native.Mathlib.Omega.{arith}
use Rattle.little.proofs.u32_at.Goals as goal

pub returns : goal.returns
returns c = (read_four _ _ _ (cc), omega arith)
