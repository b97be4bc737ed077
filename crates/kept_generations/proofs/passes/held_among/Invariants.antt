use Rattle.std.proofs.Common.{◌≡◌, drop}
use Rattle.mem_base.specs.machine.Publishing.{held_from}
use Rattle.kept_generations.proofs.passes.held_among.Given as goal

abbrev pub invariant-loop-at : goal.invariant-loop-at
invariant-loop-at l = held_from l.current l.at (drop l.at l.tracks) ≡ held_from l.current 0 l.tracks
