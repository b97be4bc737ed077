use Rattle.std.proofs.Common.{◌≡◌, ℕ, ◌<◌, ◌≤◌, get_or, length}
use Rattle.generation.specs.Published.{Published}
use Rattle.epoch_rule.specs.Values.{PassValue}
use Rattle.race_levels.specs.Levels.{HasMet}
use Rattle.race_outside.proofs.levels.meet_all.Given as goal

abbrev pub invariant-loop-i : goal.invariant-loop-i
invariant-loop-i l = (l.desk ≡ l.fn.desk) × (l.i-end ≡ length l.fn.cpus) × (length l.cpus ≡ length l.fn.cpus)
    × ((k : ℕ) (d : PassValue Published) → l.i ≤ k → get_or l.cpus k d ≡ get_or l.fn.cpus k d)
    × ((k : ℕ) (d : PassValue Published) → k < l.i → HasMet l.fn.desk.seat.seen (get_or l.fn.cpus k d) (get_or l.cpus k d))
