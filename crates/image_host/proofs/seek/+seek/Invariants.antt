use Rattle.image_host.proofs.seek.+seek.Given as goal

-- the height that is left
abbrev pub decreases-seek : goal.decreases-seek
decreases-seek l = l.height
