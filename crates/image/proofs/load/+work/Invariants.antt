use Rattle.image.proofs.load.+work.Given as goal

abbrev pub decreases-work : goal.decreases-work
decreases-work l = l.height
