use Rattle.std.proofs.Common.{◌≡◌, ℕ, ◌<◌, ◌≤◌, get_or, length}
use Rattle.race_seats.specs.declared.rooms.Work.{Work}
use Rattle.race_seats.specs.Rooms.{IsPrepared}
use Rattle.race_seats.proofs.tasks.prepare_all.Given as goal

abbrev pub invariant-loop-at : goal.invariant-loop-at
invariant-loop-at l = (length l.works.items ≡ length l.fn.works.items) × (l.at-end ≡ length l.fn.works.items)
    × ((p : ℕ) (d : Work) → l.at ≤ p → get_or l.works.items p d ≡ get_or l.fn.works.items p d)
    × ((p : ℕ) (d : Work) → p < l.at → IsPrepared l.known (get_or l.fn.works.items p d) (get_or l.works.items p d))
