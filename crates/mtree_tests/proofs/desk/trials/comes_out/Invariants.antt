use Rattle.mtree_tests.proofs.desk.trials.comes_out.Given as goal

abbrev pub ghosts-counted : goal.ghosts-counted
ghosts-counted a = record { name = a.blank.name; parts = a.blank.parts }
