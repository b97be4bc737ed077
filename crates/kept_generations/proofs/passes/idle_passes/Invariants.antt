use Rattle.std.proofs.Common.{◌≡◌, replicate}
use Rattle.mem_base.specs.machine.Passes.{idle}
use Rattle.kept_generations.proofs.passes.idle_passes.Given as goal

abbrev pub invariant-loop : goal.invariant-loop
invariant-loop l = l.states.items ≡ replicate l.counter idle
