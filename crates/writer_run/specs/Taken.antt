-- Calls that listeners got, and that were taken out of the journal.
use Rattle.std.specs.Prelude.{List, ◌++◌}
use Rattle.mem_base.specs.views.Listening.{Delivery}
use Rattle.mem_base.specs.machine.Desk.{Desk}
use Rattle.mem_base.specs.machine.Reaps.{Writer, writer}

-- the desk with these calls in its journal
abbrev pub desk_with : List Delivery → Desk → Desk
desk_with calls d = record d { listening = record d.listening { journal = calls } }

-- the writer's part with these calls in its journal
abbrev pub part_with_calls : List Delivery → Writer → Writer
part_with_calls calls w = writer (desk_with calls w.desk) w.generations

-- the writer's part as it would be, had these calls stayed in its journal, before those that are there
abbrev pub part_told_before : List Delivery → Writer → Writer
part_told_before taken w = part_with_calls (taken ++ w.desk.listening.journal) w
