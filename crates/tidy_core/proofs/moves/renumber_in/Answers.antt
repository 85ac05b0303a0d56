use borrow.Author.Rules.{rules}
use Rattle.tidy_core.proofs.Moving.{tidied_words, tidied_colours}
use Rattle.tidy_core.proofs.moves.renumber_in.Goals as goal

pub returns : goal.returns
returns c = (search rules, search tidied_words, search tidied_colours)
