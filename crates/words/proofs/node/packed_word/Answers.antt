use Rattle.words.proofs.Layouts.{packed_read}
use borrow.Author.Rules.{rules}
use Rattle.words.proofs.node.packed_word.Goals as goal

pub returns : goal.returns
returns c = (search packed_read, search rules)
