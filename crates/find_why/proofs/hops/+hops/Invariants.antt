use Rattle.find_why.proofs.hops.+hops.Given as goal

abbrev pub decreases-add_hops : goal.decreases-add_hops
decreases-add_hops l = l.left
