use Rattle.std.proofs.Common.{◌+◌, ◌++◌, ◌∷◌, ◌∙◌, [], List, Ok, arith, refl, subst}
use Rattle.std.specs.Prelude.{drop, take}
use Rattle.mem_base.specs.script.Race.{Phase, alone}
use Rattle.run_laws.specs.Fitting.{FitsCommand}
use Rattle.race_laws.specs.Outside.{phases_alone}
use Rattle.script_run.specs.declared.faults.RunFault.{RunFault}
use Rattle.std.specs.declared.result.Result.{Result}
use Rattle.race_run.specs.Racing.{Goes}
use Rattle.race_run.proofs.LineLaws.{cut_lines, line_of, next_line, take_all}
use Rattle.race_run.proofs.RacingLaws.{goes_none, goes_on, goes_to_fault}
use Rattle.race_run.proofs.phases.go_lines.Goals as goal

pub loop-number-init : goal.loop-number-init
loop-number-init g c = (c.requires.ready, goes_none g.S.Sink.written g.S.Sink.holds g.S.Sink.faults c.args.sink.now c.args.racer.now, refl)

pub go_line-back-requires-clause-fits : goal.go_line-back-requires-clause-fits
go_line-back-requires-clause-fits g c =
    line_of (λ line. FitsCommand line.1) c.args.lines.now c.loop-number.number-index c.loop-number-item.result c.loop-number-test.true
    c.loop-number-item.is c.requires.fits

pub returns-in-Err-clause-goes : goal.returns-in-Err-clause-goes
returns-in-Err-clause-goes g c =
    let lines = c.args.lines.now in
    let i = c.loop-number.number-index in
    goes_to_fault g.S.Sink.written g.S.Sink.holds g.S.Sink.faults c.args.sink.now c.loop-number.sink c.go_line-back.new.sink
    (phases_alone (take i lines)) (alone c.loop-number-item.result) (phases_alone (drop (i + 1) lines)) (phases_alone lines) c.args.racer.now c.loop-number.racer
    c.go_line-back.new.racer c.go_line-back.result.1 c.in-Err.fault c.in-Err.is
    ((λ j. next_line lines i c.loop-number-item.result c.loop-number-test.true c.loop-number-item.is j ++ phases_alone (drop (i + 1) lines))
    ∙ cut_lines lines (i + 1)) c.loop-number.invariant.1 c.go_line-back.ensures.goes

pub loop-number-preserved : goal.loop-number-preserved
loop-number-preserved g c =
    let lines = c.args.lines.now in
    let i = c.loop-number.number-index in (
      c.go_line-back.ensures.ready,
      subst (λ (xs : List Phase). Goes g.S.Sink.written g.S.Sink.holds g.S.Sink.faults c.args.sink.now c.go_line-back.new.sink xs c.args.racer.now
          c.go_line-back.new.racer (Ok tt))
          (next_line lines i c.loop-number-item.result c.loop-number-test.true c.loop-number-item.is)
          (goes_on g.S.Sink.written g.S.Sink.holds g.S.Sink.faults c.args.sink.now c.loop-number.sink c.go_line-back.new.sink (phases_alone (take i lines))
          (alone c.loop-number-item.result ∷ []) c.args.racer.now c.loop-number.racer c.go_line-back.new.racer (Ok tt) c.loop-number.invariant.1
          (subst (λ (r : Result (Unit {0}) RunFault). Goes g.S.Sink.written g.S.Sink.holds g.S.Sink.faults c.loop-number.sink c.go_line-back.new.sink
          (alone c.loop-number-item.result ∷ []) c.loop-number.racer c.go_line-back.new.racer r) c.in_default.is c.go_line-back.ensures.goes)),
      c.go_line-back.ensures.room ∙ c.loop-number.invariant.2,
    )

pub returns-clause-goes : goal.returns-clause-goes
returns-clause-goes g c =
    let lines = c.args.lines.now in
    subst (λ (xs : List Phase). Goes g.S.Sink.written g.S.Sink.holds g.S.Sink.faults c.args.sink.now c.loop-number.sink xs c.args.racer.now c.loop-number.racer (Ok tt))
    (take_all lines c.loop-number.number-index (let near = c.loop-number-test.false in let end = c.loop-number.auto.number-index-end in omega (arith, near, end)))
    c.loop-number.invariant.1
