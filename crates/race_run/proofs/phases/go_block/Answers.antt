use Rattle.std.proofs.Common.{List, Ok, sym, subst}
use Rattle.mem_base.specs.script.Race.{Phase, block}
use Rattle.race_inside.proofs.HandedOn.{StopsIn}
use Rattle.race_run.specs.Racing.{Goes}
use Rattle.race_run.proofs.LineLaws.{none_by, some_by}
use Rattle.race_run.proofs.RacingLaws.{goes_done, goes_none}
use Rattle.race_run.proofs.phases.go_block.Goals as goal
use Rattle.mem_base.proofs.OptionLaws.{on_failure}

pub returns-then-is_empty-clause-goes : goal.returns-then-is_empty-clause-goes
returns-then-is_empty-clause-goes g c =
    subst (λ (xs : List Phase). Goes g.S.Sink.written g.S.Sink.holds g.S.Sink.faults c.args.sink.now c.args.sink.now xs c.args.racer c.args.racer (Ok tt))
    (sym (none_by c.args.lines.now c.is_empty.result c.is_empty.ensures c.if-is_empty.true))
    (goes_none g.S.Sink.written g.S.Sink.holds g.S.Sink.faults c.args.sink.now c.args.racer)

pub returns-clause-goes : goal.returns-clause-goes
returns-clause-goes g c =
    let e = c.block-desk.ensures in
    let r = c.block-desk.result in
    subst (λ (xs : List Phase). Goes g.S.Sink.written g.S.Sink.holds g.S.Sink.faults c.args.sink.now c.say-said.new.sink xs c.args.racer
    (record { desk = r.0; cpus = r.1; known = r.2 }) c.say-said.result)
    (sym (some_by c.args.lines.now c.is_empty.result c.is_empty.ensures c.if-is_empty.false))
    (goes_done g.S.Sink.written g.S.Sink.holds g.S.Sink.faults c.args.sink.now c.say-said.new.sink (block c.args.lines.now) c.args.racer
    (record { desk = r.0; cpus = r.1; known = r.2 }) c.new-text.result c.block-desk.new.text r.3 c.say-said.result e.later
    c.new-text.ensures e.step (on_failure r.3 (StopsIn c.args.racer.desk c.args.racer.known (block c.args.lines.now) r.0) e.stopped) c.say-said.ensures.wrote c.say-said.ensures.memory)
