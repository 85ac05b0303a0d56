use Rattle.stack.proofs.Laws.{lent_from, mark_quiet}
use Rattle.stack.specs.States.{was_right}
use Rattle.stack.proofs.lent.go_right.Goals as goal

pub returns : goal.returns
returns c = lent_from _ _ _ _ c.on_record.ensures (mark_quiet (λ _. was_right) c.args.s.now)
