use Rattle.mem_base.specs.script.Race.{alone}
use Rattle.race_run.proofs.RacingLaws.{goes_done}
use Rattle.race_run.proofs.phases.go_line.Goals as goal

pub returns-clause-goes : goal.returns-clause-goes
returns-clause-goes g c =
    let e = c.outside_line-bounce.ensures in
    let n = c.outside_line-bounce.new in
    goes_done g.S.Sink.written g.S.Sink.holds g.S.Sink.faults c.args.sink.now c.say.new.sink (alone (c.args.number, c.args.command.now)) c.args.racer.now
    (record { desk = n.desk; cpus = n.cpus; known = n.known }) c.clear.new.self n.text c.outside_line-bounce.result.1 c.say.result
    e.later c.clear.ensures e.step e.stopped c.say.ensures.wrote c.say.ensures.memory
