use Rattle.tidy_core.proofs.Tagging.{tagged_none, tagged_on, tagged_done}
use Rattle.tidy_core.proofs.tags.tag_all.Goals as goal

pub loop-s-init : goal.loop-s-init
loop-s-init c = search tagged_none

pub loop-s-preserved : goal.loop-s-preserved
loop-s-preserved c = search tagged_on

pub returns : goal.returns
returns c = search tagged_done
