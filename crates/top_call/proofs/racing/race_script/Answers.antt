use Rattle.top_call.proofs.RaceLaws.{race_stopped, raced}
use Rattle.top_call.proofs.racing.race_script.Goals as goal

pub returns-in-Ok-clause-writes : goal.returns-in-Ok-clause-writes
returns-in-Ok-clause-writes g c =
    let e = c.race-config.ensures in
    raced g.K.Sink.written g.K.Sink.holds g.K.Sink.faults c.args.script.now c.args.sink.now c.race-config.new.sink c.race-config.result.0
    c.race-config.result.1 c.in-Ok.field-0 c.in-Ok.is e.text e.run e.home c.has_seen_all.ensures c.is_lawful.ensures

pub returns-in-Err-clause-writes : goal.returns-in-Err-clause-writes
returns-in-Err-clause-writes g c =
    let e = c.race-config.ensures in
    race_stopped g.K.Sink.written g.K.Sink.holds g.K.Sink.faults c.args.script.now c.args.sink.now c.race-config.new.sink c.race-config.result.0
    c.race-config.result.1 c.in-Err.fault c.ending_after.result c.ending_after.ensures.only c.in-Err.is e.fault e.run
