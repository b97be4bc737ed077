use Rattle.std.proofs.Common.{◌≡◌, drop}
use Rattle.kept_generations.specs.Sweeping.{announced_from}
use Rattle.kept_generations.proofs.passes.held_if_swept.Given as goal

abbrev pub invariant-loop-at : goal.invariant-loop-at
invariant-loop-at l = announced_from l.current l.at (drop l.at l.states) ≡ announced_from l.current 0 l.states
