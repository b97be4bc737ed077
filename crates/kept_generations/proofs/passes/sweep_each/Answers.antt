use Rattle.std.proofs.Common.{refl, arith}
use Rattle.kept_generations.proofs.SweepLaws.{swept_step, swept_done}
use Rattle.kept_generations.proofs.passes.sweep_each.Goals as goal

pub loop-at-preserved : goal.loop-at-preserved
loop-at-preserved c = swept_step c.args.current c.loop-at.at c.args.tracks.now c.loop-at.tracks c.args.states.now
    c.index-states-at.result c.index-tracks-at.result c.sweep.new.self
    c.loop-at.invariant (omega arith) c.requires c.index-states-at.is (rw (c.sweep.ensures, c.pin_word.ensures) refl)

pub returns : goal.returns
returns c = swept_done c.args.current c.loop-at.at c.args.tracks.now c.loop-at.tracks c.args.states.now c.loop-at.invariant (omega arith) c.requires
