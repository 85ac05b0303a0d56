use Rattle.test_limits.proofs.Laws.{least_few, least_six, least_eight}
use borrow.Author.Rules.{rules}
use Rattle.test_limits.proofs.check_chain.Goals as goal

pub put_chain-requires : goal.put_chain-requires
put_chain-requires c = (search least_few, search least_six, search least_eight)
