use Rattle.bitvec.proofs.Weights.{Weighs, weight_at}
use Rattle.bitvec.proofs.weight.Goals as goal

pub returns : goal.returns
unfolding Weighs
returns c = search weight_at
