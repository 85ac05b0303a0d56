use Rattle.slotshell_view.proofs.Laws.{stays, goes_on}
use Rattle.slotshell_view.proofs.nodes.View.goes_in.Goals as goal

pub returns-then-self-child : goal.returns-then-self-child
returns-then-self-child c = search stays

pub returns : goal.returns
returns c = search goes_on
