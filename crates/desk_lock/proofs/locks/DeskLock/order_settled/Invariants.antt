use Rattle.std.proofs.Common.{◌≡◌, ℕ, ◌+◌}
use Rattle.config_desk.specs.Settling.{tries_of}
use Rattle.desk_lock.specs.Settled.{WroteHeld}
use Rattle.desk_lock.proofs.locks.DeskLock.order_settled.Given as goal

-- the order was given some times and held up, and may be given that many times more before the last
abbrev pub invariant-loop-left : goal.invariant-loop-left
invariant-loop-left g l = (n : ℕ) × (n + l.left ≡ tries_of l.patience) × WroteHeld n l.fn.clerk l.order l.clerk

abbrev pub decreases-loop-left : goal.decreases-loop-left
decreases-loop-left g l = l.left
