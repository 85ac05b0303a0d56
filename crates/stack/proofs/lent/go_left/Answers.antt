use Rattle.stack.proofs.Laws.{lent_from, mark_quiet}
use Rattle.stack.specs.Calls.{went_left}
use Rattle.stack.proofs.lent.go_left.Goals as goal

pub returns : goal.returns
returns c = lent_from _ _ _ _ c.on_record.ensures (mark_quiet went_left c.args.s.now)
