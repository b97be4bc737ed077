use Rattle.std.proofs.Common.{List, inl, refl, subst}
use Rattle.std.specs.declared.result.Result.{Result}
use Rattle.mem_base.specs.script.Scripts.{Line, script_of}
use Rattle.run_laws.proofs.FittingLaws.{lines_fit}
use Rattle.script_text.specs.declared.faults.ParseFault.{ParseFault}
use Rattle.script_text.specs.Parses.{FailsBy, Parses}
use Rattle.top_runs.specs.declared.endings.Ending.TheVariants as endings
use Rattle.top_call.proofs.RaceLaws.{nothing_raced, refused_race}
use Rattle.top_call.proofs.racing.race_text.Goals as goal

pub returns-in-Ok-clause-writes : goal.returns-in-Ok-clause-writes
returns-in-Ok-clause-writes g c =
    nothing_raced g.K.Sink.written g.K.Sink.holds (script_of c.args.text.now) c.args.sink.now endings.Memory (lines_fit c.args.text.now) (inl refl)

pub returns-in-Bad-clause-writes : goal.returns-in-Bad-clause-writes
returns-in-Bad-clause-writes g c =
    let failed = subst (λ (r : Result (List Line) ParseFault). Parses r (script_of c.args.text.now)) c.in-Err.is c.parse_and_make-parsed.ensures.script in
    refused_race g.K.Sink.written g.K.Sink.holds g.K.Sink.faults (script_of c.args.text.now) c.in-Bad.bad c.args.sink.now c.refuse.new.sink
    c.refuse.result (subst (λ (f : ParseFault). FailsBy f (script_of c.args.text.now)) c.in-Bad.is failed) c.refuse.ensures.says

pub returns-clause-writes : goal.returns-clause-writes
returns-clause-writes g c =
    nothing_raced g.K.Sink.written g.K.Sink.holds (script_of c.args.text.now) c.args.sink.now endings.Memory (lines_fit c.args.text.now) (inl refl)
