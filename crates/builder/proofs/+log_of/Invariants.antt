use Rattle.builder.proofs.+log_of.Given as goal

abbrev pub decreases-log_of : goal.decreases-log_of
decreases-log_of l = l.g
