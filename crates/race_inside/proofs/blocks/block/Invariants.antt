use Rattle.race_inside.proofs.blocks.block.Given as goal

-- the record that is put behind the lock
abbrev pub ghosts-run_in : goal.ghosts-run_in
ghosts-run_in g a = record { start = a.desk }
