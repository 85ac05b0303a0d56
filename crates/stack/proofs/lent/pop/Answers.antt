use Rattle.stack.proofs.Laws.{lent_from, pop_quiet}
use Rattle.stack.proofs.lent.pop.Goals as goal

pub returns : goal.returns
returns c = lent_from _ _ _ _ c.on_record.ensures (pop_quiet c.args.s.now)
