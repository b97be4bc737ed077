use Rattle.std.proofs.Common.{ap, Err}
use Rattle.top_runs.proofs.RunLaws.{out_of_memory, ran, read_fault, too_long}
use Rattle.top_runs.proofs.running.run_source.Goals as goal

pub returns-in-Ok : goal.returns-in-Ok
returns-in-Ok g c = ran g.S.Source.left g.S.Source.faults g.K.Sink.written g.K.Sink.holds g.K.Sink.faults
    c.args.source.now c.read_all.new.source c.args.sink.now c.run_text.new.sink c.run_text.result c.in-Ok.bytes.items c.deref.result.now
    c.in-Ok.ensures.all c.run_text.ensures.done c.run_text.ensures.bad c.run_text.ensures.prefix c.run_text.ensures.write
    c.run_text.ensures.never c.run_text.ensures.complete c.deref.ensures.value

pub returns-in-Err-Failed : goal.returns-in-Err-Failed
returns-in-Err-Failed g c = read_fault g.S.Source.left g.S.Source.faults g.K.Sink.written g.K.Sink.holds g.K.Sink.faults _ _ _
    (c.in-Err-Failed.ensures.short (ap Err c.in-Err-Failed.field-0-is)) (c.in-Err-Failed.ensures.failed (ap Err c.in-Err-Failed.field-0-is))

pub returns-in-Err-Long : goal.returns-in-Err-Long
returns-in-Err-Long g c = too_long g.S.Source.left g.S.Source.faults g.K.Sink.written g.K.Sink.holds g.K.Sink.faults _ _ _ _ _
    (c.in-Err-Long.ensures.long (ap Err c.in-Err-Long.field-0-is)) (rw c.too_long.ensures at c.refuse.ensures.says)

pub returns-in-Err-Memory : goal.returns-in-Err-Memory
returns-in-Err-Memory g c = out_of_memory g.S.Source.left g.S.Source.faults g.K.Sink.written g.K.Sink.holds g.K.Sink.faults _ _ _
