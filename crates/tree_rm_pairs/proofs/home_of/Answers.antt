use Rattle.tree_rm_rule.specs.Pairs.{home}
use borrow.Author.Rules.{rules}
use Rattle.tree_rm_pairs.proofs.home_of.Goals as goal

pub returns : goal.returns
unfolding home
returns c = rw (c.after_move.ensures, c.emptied_slot.ensures, c.after_move-second.ensures, c.after_move-first.ensures)
