use Rattle.libvobrekan.proofs.shown.found_in.Given as goal

abbrev pub ghosts-run_at : goal.ghosts-run_at
ghosts-run_at a = record { name = a.blank.name; parts = a.blank.parts }
