use Rattle.world_core.proofs.world.World.change.Given as goal

abbrev pub ghosts-configured : goal.ghosts-configured
ghosts-configured a = record { name = a.blank.name; parts = a.blank.parts }
