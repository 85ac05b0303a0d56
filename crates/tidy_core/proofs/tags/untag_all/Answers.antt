use Rattle.tidy_core.proofs.Tagging.{untagged_none, untagged_on, untagged_done}
use Rattle.tidy_core.proofs.tags.untag_all.Goals as goal

pub loop-s-init : goal.loop-s-init
loop-s-init c = search untagged_none

pub loop-s-preserved : goal.loop-s-preserved
loop-s-preserved c = search untagged_on

pub returns : goal.returns
returns c = search untagged_done
