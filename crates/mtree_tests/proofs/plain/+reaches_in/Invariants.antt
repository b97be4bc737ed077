use Rattle.mtree_tests.proofs.plain.+reaches_in.Given as goal

abbrev pub decreases-reaches_in : goal.decreases-reaches_in
decreases-reaches_in l = l.most
