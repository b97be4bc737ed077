use Rattle.std.proofs.Common.{◌≡◌, false}
use Rattle.mem_base.specs.machine.Generations.{with_placed}
use Rattle.kept_generations.proofs.ListLaws.{mapped_to}
use Rattle.kept_generations.proofs.passes.unplace.Given as goal

abbrev pub invariant-loop-track : goal.invariant-loop-track
invariant-loop-track l = l.tracks ≡ mapped_to (with_placed false) l.track-index l.fn.tracks
