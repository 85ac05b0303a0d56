use Rattle.slotshell_view.proofs.nodes.View.+hull_below.Given as goal

abbrev pub decreases-hull_below : goal.decreases-hull_below
decreases-hull_below l = l.height
