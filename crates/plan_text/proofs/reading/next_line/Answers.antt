use Rattle.plan_text.proofs.Arms.{line_next, line_last}
use Rattle.plan_text.proofs.reading.next_line.Goals as goal

pub returns-then-line-lt-FREE : goal.returns-then-line-lt-FREE
returns-then-line-lt-FREE c = search line_next

pub returns-else-line-lt-FREE : goal.returns-else-line-lt-FREE
returns-else-line-lt-FREE c = search line_last
