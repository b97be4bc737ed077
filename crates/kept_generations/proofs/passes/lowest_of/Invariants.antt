use Rattle.std.proofs.Common.{◌≡◌, ◌≤◌, min, drop}
use Rattle.mem_base.specs.machine.Generations.{least_lowest}
use Rattle.kept_generations.proofs.passes.lowest_of.Given as goal

abbrev pub invariant-loop-track : goal.invariant-loop-track
invariant-loop-track l = record {
  most : l.least ≤ l.current;
  rest : min l.least (least_lowest l.current (drop l.track-index l.tracks)) ≡ least_lowest l.current l.tracks;
}
