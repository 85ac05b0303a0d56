use Rattle.image.proofs.Writes.{links_none, links_on, links_end}
use Rattle.image.proofs.write.put_links.Goals as goal

pub loop-s-init : goal.loop-s-init
loop-s-init c = search links_none

pub loop-s-preserved : goal.loop-s-preserved
loop-s-preserved c = search links_on

pub returns : goal.returns
returns c = search links_end
