use Rattle.std.proofs.Common.{◌≡◌, ℕ, ◌<◌, ◌≤◌, get_or, length}
use Rattle.desk_orders.specs.Records.{IsLater}
use Rattle.race_block.specs.declared.blocks.BlockActor.{BlockActor}
use Rattle.race_block.specs.Joined.{HasTold}
use Rattle.race_join.proofs.joining.hear_all.Given as goal

abbrev pub invariant-loop-at : goal.invariant-loop-at
invariant-loop-at l = IsLater l.fn.desk l.desk × (l.desk.entries ≡ l.fn.desk.entries) × (l.at-end ≡ length l.fn.actors)
    × (length l.actors ≡ length l.fn.actors) × ((k : ℕ) (d : BlockActor) → l.at ≤ k → get_or l.actors k d ≡ get_or l.fn.actors k d)
    × ((k : ℕ) (d : BlockActor) → k < l.at → HasTold l.desk.seat.seen (get_or l.fn.actors k d) (get_or l.actors k d))
