use Rattle.words.proofs.Laws.{linked, unlinked}
use Rattle.tree_links.proofs.root_below.Goals as goal

pub returns-in_default : goal.returns-in_default
returns-in_default c = search unlinked

pub returns : goal.returns
returns c = search linked
