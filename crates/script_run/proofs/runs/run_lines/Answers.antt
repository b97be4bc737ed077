use Rattle.std.proofs.Common.{◌≡◌, refl, rules, List, ℕ}
use Rattle.mem_base.specs.script.Run.{step}
use Rattle.run_laws.specs.Fitting.{FitsCommand}
use Rattle.script_run.specs.Standing.{state_of}
use Rattle.script_run.proofs.Writing.{alone_added, through_prefix, through_start}
use Rattle.script_run.proofs.RunLaws.{each_here, each_later, script_next, script_part}
use Rattle.script_run.proofs.runs.run_lines.Goals as goal
use Rattle.mem_base.proofs.OptionLaws.{on_failure}

pub loop-number-init : goal.loop-number-init
loop-number-init g c = record {
  through = through_start g.K.Sink.written g.K.Sink.holds g.K.Sink.faults _ _ _ refl;
  ready = c.requires.ready;
  fits = c.requires.fits;
}

pub step-requires-clause-ready : goal.step-requires-clause-ready
step-requires-clause-ready g c = c.loop-number.invariant.ready

pub step-requires-clause-fits : goal.step-requires-clause-fits
step-requires-clause-fits g c =
    each_here (λ line. FitsCommand line.1) c.args.lines.now c.loop-number.number-index c.loop-number-item.result
    c.loop-number-test.true c.loop-number-item.is c.loop-number.invariant.fits

pub returns-in_err-step : goal.returns-in_err-step
returns-in_err-step g c = record {
  all = search rules;
  prefix = on_failure c.from_residual.result _
      (through_prefix g.K.Sink.written g.K.Sink.holds g.K.Sink.faults _ _ _ _ c.loop-number.invariant.through);
  failed = search rules;
  later = c.loop-number.invariant.through.later;
}

pub returns-in_err-write_lines : goal.returns-in_err-write_lines
returns-in_err-write_lines g c =
    let x : List ℕ = (step (state_of c.loop-number.session) c.loop-number-item.result.0 c.loop-number-item.result.1).0 in
    let text : c.as_bytes.result.now ≡ x =
    alone_added c.as_bytes.result.now c.step.new.text c.clear.new.self x c.as_bytes.ensures c.in_ok-step.ensures.text c.clear.ensures in
    record {
      all = search rules;
      prefix = on_failure c.from_residual-in_err-write_lines.result _ (script_part g.K.Sink.written g.K.Sink.holds g.K.Sink.faults _ _ _ _ _
          (state_of c.loop-number.session) c.args.lines.now c.loop-number.number-index c.loop-number-item.result c.loop-number-test.true
          c.loop-number-item.is c.loop-number.invariant.through text c.in_err-write_lines.ensures.prefix);
      failed = search rules;
      later = search rules;
    }

pub loop-number-preserved : goal.loop-number-preserved
loop-number-preserved g c =
    let own = c.in_ok-step.ensures in
    let wrote = c.in_ok-write_lines.ensures in
    let x : List ℕ = (step (state_of c.loop-number.session) c.loop-number-item.result.0 c.loop-number-item.result.1).0 in
    let text : c.as_bytes.result.now ≡ x =
    alone_added c.as_bytes.result.now c.step.new.text c.clear.new.self x c.as_bytes.ensures c.in_ok-step.ensures.text c.clear.ensures in
    record {
      through = script_next g.K.Sink.written g.K.Sink.holds g.K.Sink.faults _ _ _ _ _ (state_of c.loop-number.session) (state_of c.step.new.self)
          c.args.lines.now c.loop-number.number-index c.loop-number-item.result c.loop-number-test.true c.loop-number-item.is
          c.loop-number.invariant.through text wrote.all wrote.later own.is;
      ready = own.ready;
      fits = each_later (λ line. FitsCommand line.1) c.args.lines.now c.loop-number.number-index c.loop-number-item.result
          c.loop-number-test.true c.loop-number-item.is c.loop-number.invariant.fits;
    }
