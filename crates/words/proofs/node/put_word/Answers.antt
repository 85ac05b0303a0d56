use Rattle.words.proofs.Layouts.{viewed_put, plain_put}
use Rattle.words.proofs.node.put_word.Goals as goal

pub returns-then-narrow : goal.returns-then-narrow
returns-then-narrow c = search viewed_put

pub returns-else-narrow : goal.returns-else-narrow
returns-else-narrow c = search plain_put
