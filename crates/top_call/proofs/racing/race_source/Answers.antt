use Rattle.std.proofs.Common.{Err, None, ap, inl, inr, refl}
use Rattle.mem_base.specs.script.Scripts.{script_of}
use Rattle.run_laws.proofs.FittingLaws.{lines_fit}
use Rattle.top_runs.specs.declared.endings.Ending.TheVariants as endings
use Rattle.top_call.specs.RacedText.{WritesRaceOf}
use Rattle.top_call.proofs.RaceLaws.{nothing_raced, refused_race}
use Rattle.top_runs.proofs.RunLaws.{long_fault, memory_by, ran_by, read_fault_by, too_long_by}
use Rattle.top_call.proofs.racing.race_source.Goals as goal

pub returns-in-Ok : goal.returns-in-Ok
returns-in-Ok g c =
    let e = c.race_text.ensures in
    ran_by g.S.Source.left g.S.Source.faults c.args.source.now c.read_all.new.source (g.K.Sink.faults c.args.sink.now) (g.K.Sink.faults c.race_text.new.sink)
    (λ script. WritesRaceOf g.K.Sink.written g.K.Sink.holds script c.args.sink.now c.race_text.new.sink c.race_text.result.1 c.race_text.result.0)
    c.race_text.result.0 c.in-Ok.bytes.items c.deref.result.now c.in-Ok.ensures.all e.write e.never e.complete c.deref.ensures.value e.writes

pub returns-in-Err-Failed : goal.returns-in-Err-Failed
returns-in-Err-Failed g c =
    read_fault_by g.S.Source.left g.S.Source.faults c.args.source.now c.read_all.new.source (g.K.Sink.faults c.args.sink.now) (g.K.Sink.faults c.args.sink.now)
    (λ script. WritesRaceOf g.K.Sink.written g.K.Sink.holds script c.args.sink.now c.args.sink.now None endings.ReadFault)
    (c.in-Err-Failed.ensures.short (ap Err c.in-Err-Failed.field-0-is)) (c.in-Err-Failed.ensures.failed (ap Err c.in-Err-Failed.field-0-is))
    (λ bytes. nothing_raced g.K.Sink.written g.K.Sink.holds (script_of bytes) c.args.sink.now endings.ReadFault (lines_fit bytes) (inr refl))

pub returns-in-Err-Long : goal.returns-in-Err-Long
returns-in-Err-Long g c =
    let says = rw c.too_long.ensures at c.refuse.ensures.says in
    too_long_by g.S.Source.left g.S.Source.faults c.args.source.now c.read_all.new.source (g.K.Sink.faults c.args.sink.now)
    (g.K.Sink.faults c.refuse.new.sink)
    (λ script. WritesRaceOf g.K.Sink.written g.K.Sink.holds script c.args.sink.now c.refuse.new.sink None c.refuse.result) c.refuse.result
    (c.in-Err-Long.ensures.long (ap Err c.in-Err-Long.field-0-is)) says.only says.write
    (λ script same. refused_race g.K.Sink.written g.K.Sink.holds g.K.Sink.faults script long_fault c.args.sink.now c.refuse.new.sink c.refuse.result same says)

pub returns-in-Err-Memory : goal.returns-in-Err-Memory
returns-in-Err-Memory g c =
    memory_by g.S.Source.left g.S.Source.faults c.args.source.now c.read_all.new.source (g.K.Sink.faults c.args.sink.now) (g.K.Sink.faults c.args.sink.now)
    (λ script. WritesRaceOf g.K.Sink.written g.K.Sink.holds script c.args.sink.now c.args.sink.now None endings.Memory)
    (λ bytes. nothing_raced g.K.Sink.written g.K.Sink.holds (script_of bytes) c.args.sink.now endings.Memory (lines_fit bytes) (inl refl))
