use Rattle.std.proofs.Common.{◌≡◌, ℕ, ◌<◌, ◌≤◌, get_or, length}
use Rattle.race_block.specs.declared.blocks.BlockActor.{BlockActor}
use Rattle.race_block.specs.Joined.{HasMet}
use Rattle.race_join.proofs.joining.meet_all.Given as goal

abbrev pub invariant-loop-at : goal.invariant-loop-at
invariant-loop-at l = (l.desk ≡ l.fn.desk) × (l.at-end ≡ length l.fn.actors) × (length l.actors ≡ length l.fn.actors)
    × ((k : ℕ) (d : BlockActor) → l.at ≤ k → get_or l.actors k d ≡ get_or l.fn.actors k d)
    × ((k : ℕ) (d : BlockActor) → k < l.at → HasMet l.fn.desk.seat.seen (get_or l.fn.actors k d) (get_or l.actors k d))
