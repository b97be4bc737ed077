use Rattle.std.proofs.Common.{map, rules, string_bytes}
use Rattle.mem_base.specs.script.Words.{task_of}
use Rattle.top_call.specs.Races.{Races}
use Rattle.top_runs.proofs.SayLaws.{if_race_one}
use Rattle.top_call.proofs.top.exit_code.Goals as goal

pub returns-clause-race : goal.returns-clause-race
returns-clause-race g c = (
  c.mtree-ending.result,
  search rules,
  if_race_one (task_of (map string_bytes c.args.words.now))
      (λ machine. Races g.S.Source.left g.S.Source.faults g.K.Sink.written g.K.Sink.holds g.K.Sink.faults c.args.source.now c.mtree-ending.new.source c.args.sink.now
      c.mtree-ending.new.sink machine c.mtree-ending.result) c.mtree-ending.new.kept c.mtree-ending.ensures.race,
)
