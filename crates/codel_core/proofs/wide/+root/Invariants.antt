use Rattle.codel_core.proofs.wide.+root.Given as goal

abbrev pub decreases-root : goal.decreases-root
decreases-root l = l.v
