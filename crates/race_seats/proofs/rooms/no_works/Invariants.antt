use Rattle.std.proofs.Common.{◌≡◌, ℕ, ◌<◌, ◌≤◌, get_or, length}
use Rattle.race_seats.specs.declared.rooms.Work.{Work}
use Rattle.race_seats.specs.Rooms.{IsIdle, most_actors}
use Rattle.race_seats.proofs.rooms.no_works.Given as goal

abbrev pub invariant-loop-who : goal.invariant-loop-who
invariant-loop-who l = (length l.works.items ≡ l.who) × (l.who ≤ most_actors)
    × ((p : ℕ) (d : Work) → p < length l.works.items → IsIdle (get_or l.works.items p d))
