use Rattle.words.proofs.Layouts.{viewed, viewed_fits, plain_read, plain_fits}
use Rattle.words.proofs.node.word_of.Goals as goal

pub returns-then-narrow : goal.returns-then-narrow
returns-then-narrow c = (search viewed, search viewed_fits)

pub returns-else-narrow : goal.returns-else-narrow
returns-else-narrow c = (search plain_read, search plain_fits)
