use Rattle.mtree_tests.proofs.plain.+depth_in.Given as goal

abbrev pub decreases-depth_in : goal.decreases-depth_in
decreases-depth_in l = l.most
