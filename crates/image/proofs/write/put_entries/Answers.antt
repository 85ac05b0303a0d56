use Rattle.image.proofs.Writes.{entries_none, entries_on, entries_end}
use Rattle.image.proofs.write.put_entries.Goals as goal

pub loop-s-init : goal.loop-s-init
loop-s-init c = search entries_none

pub loop-s-preserved : goal.loop-s-preserved
loop-s-preserved c = search entries_on

pub returns : goal.returns
returns c = search entries_end
