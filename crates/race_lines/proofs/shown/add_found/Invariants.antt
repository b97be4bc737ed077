use Rattle.race_lines.proofs.shown.add_found.Given as goal

abbrev pub ghosts-found_in : goal.ghosts-found_in
ghosts-found_in a = record { name = a.blank.name; parts = a.blank.parts }
