use Rattle.stack.proofs.Laws.{lent_from, mark_quiet}
use Rattle.stack.specs.States.{returned}
use Rattle.stack.proofs.lent.make_match.Goals as goal

pub returns : goal.returns
returns c = lent_from _ _ _ _ c.on_record.ensures (mark_quiet (λ _. returned) c.args.s.now)
