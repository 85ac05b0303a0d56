use Rattle.stack.proofs.Laws.{lent_from, push_quiet}
use Rattle.stack.proofs.lent.push.Goals as goal

pub returns : goal.returns
returns c = lent_from _ _ _ _ c.on_record.ensures (push_quiet c.args.s.now)
