use Rattle.machine_tests.proofs.locks.crowds.entries_of.Given as goal

-- the record that is put behind the lock
abbrev pub ghosts-entries_of_crowd : goal.ghosts-entries_of_crowd
ghosts-entries_of_crowd g a = record { start = a.first }
