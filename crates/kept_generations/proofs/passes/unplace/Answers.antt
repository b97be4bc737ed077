use Rattle.std.proofs.Common.{false, arith}
use Rattle.mem_base.specs.machine.Generations.{with_placed}
use Rattle.kept_generations.proofs.ListLaws.{mapped_step, mapped_done}
use Rattle.kept_generations.proofs.passes.unplace.Goals as goal

pub loop-track-preserved : goal.loop-track-preserved
loop-track-preserved c = mapped_step (with_placed false) c.loop-track.track-index c.args.tracks.now c.loop-track.tracks c.track-item.result
    c.set_placed.new.self c.loop-track.invariant (omega arith) c.set_placed.ensures

pub returns : goal.returns
returns c = mapped_done (with_placed false) c.loop-track.track-index c.args.tracks.now c.loop-track.tracks c.loop-track.invariant (omega arith)
