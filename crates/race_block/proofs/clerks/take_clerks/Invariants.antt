use Rattle.std.proofs.Common.{◌≡◌, ℕ, ◌<◌, ◌≤◌, get_or, length, map, take}
use Rattle.std.specs.Prelude.{vec_capacity}
use Rattle.race_block.specs.declared.blocks.BlockActor.{BlockActor}
use Rattle.race_block.specs.Joined.{clerk_of, without_clerk}
use Rattle.race_block.proofs.clerks.take_clerks.Given as goal

abbrev pub invariant-loop-at : goal.invariant-loop-at
invariant-loop-at l = (l.clerks.items ≡ map clerk_of (take l.at l.fn.actors)) × (l.at-end ≡ length l.fn.actors) × (length l.actors ≡ length l.fn.actors)
    × (length l.fn.actors ≤ vec_capacity l.clerks)
    × ((k : ℕ) (d : BlockActor) → l.at ≤ k → get_or l.actors k d ≡ get_or l.fn.actors k d)
    × ((k : ℕ) (d : BlockActor) → k < l.at → get_or l.actors k d ≡ without_clerk (get_or l.fn.actors k d))
