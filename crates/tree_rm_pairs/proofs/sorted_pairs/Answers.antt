use Rattle.tree_rm_rule.specs.Pairs.{by_old_slot}
use borrow.Author.Rules.{rules}
use Rattle.tree_rm_pairs.proofs.sorted_pairs.Goals as goal

pub returns : goal.returns
unfolding by_old_slot
returns c = rw (c.upper_of-second.ensures, c.lower_of-first.ensures, c.lower_of-middle.ensures, c.upper_of-third.ensures, c.upper_of-high.ensures, c.lower_of-low.ensures)
