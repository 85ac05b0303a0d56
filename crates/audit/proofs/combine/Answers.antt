use Rattle.words.proofs.Tests.{passed}
use Rattle.audit.proofs.Laws.{joined}
use Rattle.audit.proofs.combine.Goals as goal

pub returns-then-is_fit : goal.returns-then-is_fit
returns-then-is_fit c = search joined

pub returns-else-is_fit : goal.returns-else-is_fit
returns-else-is_fit c = search passed
