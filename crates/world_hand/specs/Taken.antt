-- Calls that listeners got, and that were taken out of the journal.
use Rattle.std.specs.Prelude.{List, ◌++◌}
use Rattle.mem_base.specs.views.Listening.{Delivery}
use Rattle.mem_base.specs.machine.World.{World, world}
use Rattle.writer_run.specs.Taken.{part_with_calls}

-- the world with these calls in its journal
abbrev pub with_calls : List Delivery → World → World
with_calls calls w = world (part_with_calls calls w.writer) w.passes w.blocks

-- the world as it would be, had these calls stayed in its journal, before those that are there
abbrev pub told_before : List Delivery → World → World
told_before taken w = with_calls (taken ++ w.writer.desk.listening.journal) w
