use Rattle.slotshell_view.proofs.nodes.View.+height_below.Given as goal

abbrev pub decreases-height_below : goal.decreases-height_below
decreases-height_below l = l.height
