use Rattle.mtree_tests.proofs.plain.+weight_in.Given as goal

abbrev pub decreases-weight_in : goal.decreases-weight_in
decreases-weight_in l = l.most
