use Rattle.builder.proofs.Tests.{proper_start, every_on, every_not, every_end}
use Rattle.builder.proofs.list.all_proper.Goals as goal

pub loop-k-init : goal.loop-k-init
loop-k-init c = search proper_start

pub loop-k-preserved : goal.loop-k-preserved
loop-k-preserved c = search every_on

pub returns-then-not-is_proper_at : goal.returns-then-not-is_proper_at
returns-then-not-is_proper_at c = search every_not

pub returns : goal.returns
returns c = search every_end
