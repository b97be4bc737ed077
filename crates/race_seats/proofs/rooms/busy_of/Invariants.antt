use Rattle.std.proofs.Common.{◌≡◌, map, take}
use Rattle.race_seats.specs.Rooms.{acts}
use Rattle.race_seats.proofs.rooms.busy_of.Given as goal

abbrev pub invariant-loop-work : goal.invariant-loop-work
invariant-loop-work l = l.busy.items ≡ map acts (take l.work-index l.works)
