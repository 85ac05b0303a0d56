use Rattle.tree_links.proofs.+leftmost_from.Given as goal

abbrev pub decreases-leftmost_from : goal.decreases-leftmost_from
decreases-leftmost_from l = l.height
