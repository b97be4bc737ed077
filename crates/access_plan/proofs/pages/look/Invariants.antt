use Rattle.access_plan.proofs.pages.look.Given as goal

abbrev pub ghosts-shown_at : goal.ghosts-shown_at
ghosts-shown_at a = record { name = a.blank.name; parts = a.blank.parts }
