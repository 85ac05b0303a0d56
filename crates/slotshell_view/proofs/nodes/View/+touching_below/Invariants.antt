use Rattle.slotshell_view.proofs.nodes.View.+touching_below.Given as goal

abbrev pub decreases-touching_below : goal.decreases-touching_below
decreases-touching_below l = l.height
