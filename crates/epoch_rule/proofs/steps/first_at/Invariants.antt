use Rattle.epoch_rule.proofs.Common.{◌≡◌, ◌+◌, drop, first_at}
use Rattle.epoch_rule.proofs.steps.first_at.Given as goal

-- none before has this lowest number
abbrev pub invariant-loop-i : goal.invariant-loop-i
invariant-loop-i l = first_at l.lowest l.known ≡ l.i + first_at l.lowest (drop l.i l.known)
