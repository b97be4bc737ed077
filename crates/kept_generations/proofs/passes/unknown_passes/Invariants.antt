use Rattle.std.proofs.Common.{◌≡◌, replicate}
use Rattle.mem_base.specs.machine.Generations.{nothing_known}
use Rattle.kept_generations.proofs.passes.unknown_passes.Given as goal

abbrev pub invariant-loop : goal.invariant-loop
invariant-loop l = l.tracks.items ≡ replicate l.counter nothing_known
