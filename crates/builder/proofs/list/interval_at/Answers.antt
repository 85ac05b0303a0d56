use Rattle.builder.specs.Input.{start_of, end_of}
use borrow.Author.Rules.{rules}
use Rattle.builder.proofs.list.interval_at.Goals as goal

pub returns : goal.returns
unfolding start_of end_of
returns c = search rules
