use Rattle.builder.specs.Input.{proper_at}
use borrow.Author.Rules.{rules}
use Rattle.builder.proofs.list.is_proper_at.Goals as goal

pub interval_at-i-requires : goal.interval_at-i-requires
unfolding proper_at
interval_at-i-requires c = search rules

pub is_proper-requires : goal.is_proper-requires
unfolding proper_at
is_proper-requires c = search rules

pub returns : goal.returns
unfolding proper_at
returns c = rw (c.is_proper.ensures, c.interval_at-i.ensures)
