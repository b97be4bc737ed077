use Rattle.std.proofs.Common.{◌≡◌, ℕ, ◌+◌}
use Rattle.config_desk.specs.Settling.{tries_of}
use Rattle.config_desk.specs.Tries.{AreTries}
use Rattle.config_desk.proofs.config.Config.try_on.Given as goal

-- the tries so far were held up, but for the last one; these are left
abbrev pub invariant-loop-left : goal.invariant-loop-left
invariant-loop-left g l = (n : ℕ) × (n + l.left ≡ tries_of l.patience) × AreTries n l.fn.self l.event l.answer l.self

abbrev pub decreases-loop-left : goal.decreases-loop-left
decreases-loop-left g l = l.left
