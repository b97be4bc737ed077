use Rattle.std.proofs.Common.{◌≡◌}
use Rattle.kept_generations.proofs.SweepLaws.{swept_to}
use Rattle.kept_generations.proofs.passes.sweep_each.Given as goal

abbrev pub invariant-loop-at : goal.invariant-loop-at
invariant-loop-at l = l.tracks ≡ swept_to l.current l.at l.fn.tracks l.states
