use Rattle.std.proofs.Common.{refl}
use Rattle.run_laws.specs.Fitting.{FitsCommand}
use Rattle.script_run.specs.Standing.{state_of}
use Rattle.script_run.proofs.RunLaws.{each_here, each_later}
use Rattle.script_map.proofs.LeftLaws.{refused_next, state_next}
use Rattle.script_map.proofs.maps.take_lines.Goals as goal

pub loop-number-init : goal.loop-number-init
loop-number-init c = record { state = refl; refused = refl; ready = c.requires.ready; fits = c.requires.fits }

pub take_line-requires-clause-ready : goal.take_line-requires-clause-ready
take_line-requires-clause-ready c = c.loop-number.invariant.ready

pub take_line-requires-clause-fits : goal.take_line-requires-clause-fits
take_line-requires-clause-fits c =
    each_here (λ line. FitsCommand line.1) c.args.lines.now c.loop-number.number-index c.loop-number-item.result
    c.loop-number-test.true c.loop-number-item.is c.loop-number.invariant.fits

pub loop-number-preserved : goal.loop-number-preserved
loop-number-preserved c =
    let own = c.in_ok-take_line.ensures in record {
      state = state_next c.args.lines.now c.loop-number.number-index c.loop-number-item.result (state_of c.loop-number.session)
          (state_of c.take_line.new.session) _ c.loop-number-test.true c.loop-number-item.is own.state c.loop-number.invariant.state;
      refused = refused_next c.args.lines.now c.loop-number.number-index c.loop-number-item.result (state_of c.loop-number.session)
          (state_of c.take_line.new.session) _ _ _ c.loop-number-test.true c.loop-number-item.is own.state own.refused
          c.loop-number.invariant.refused;
      ready = own.ready;
      fits = each_later (λ line. FitsCommand line.1) c.args.lines.now c.loop-number.number-index c.loop-number-item.result
          c.loop-number-test.true c.loop-number-item.is c.loop-number.invariant.fits;
    }
