use Rattle.std.proofs.Common.{map, string_bytes}
use Rattle.mem_base.specs.script.Words.{task_of, usage_line}
use Rattle.script_make.specs.Texts.{text_of_seed}
use Rattle.top_runs.specs.declared.endings.Ending.TheVariants.{Done, Memory, Usage}
use Rattle.top_runs.specs.Runs.{Runs}
use Rattle.top_runs.specs.Says.{IsLeftAlone, Says, demo_text}
use Rattle.top_runs.proofs.RunLaws.{out_of_memory}
use Rattle.top_runs.proofs.SayLaws.{if_demo, if_make, if_run, if_usage, left_alone, says_nothing, unless_reads}
use Rattle.top_runs.proofs.tasks.alone.Goals as goal

pub returns-in-Err-Memory-clause-run : goal.returns-in-Err-Memory-clause-run
returns-in-Err-Memory-clause-run g c = if_run (task_of (map string_bytes c.args.words.now))
    (Runs g.S.Source.left g.S.Source.faults g.K.Sink.written g.K.Sink.holds g.K.Sink.faults
    c.args.source.now c.args.source.now c.args.sink.now c.args.sink.now Memory)
    (out_of_memory g.S.Source.left g.S.Source.faults g.K.Sink.written g.K.Sink.holds g.K.Sink.faults c.args.source.now c.args.source.now c.args.sink.now)

pub returns-in-Err-Memory-clause-make : goal.returns-in-Err-Memory-clause-make
returns-in-Err-Memory-clause-make g c = if_make (task_of (map string_bytes c.args.words.now))
    (λ seed. Says g.K.Sink.written g.K.Sink.holds g.K.Sink.faults (text_of_seed seed) Done c.args.sink.now c.args.sink.now Memory)
    (λ seed. says_nothing g.K.Sink.written g.K.Sink.holds g.K.Sink.faults (text_of_seed seed) Done c.args.sink.now (λ e. cc))

pub returns-in-Err-Memory-clause-demo : goal.returns-in-Err-Memory-clause-demo
returns-in-Err-Memory-clause-demo g c = if_demo (task_of (map string_bytes c.args.words.now))
    (λ seed. Says g.K.Sink.written g.K.Sink.holds g.K.Sink.faults (demo_text seed) Done c.args.sink.now c.args.sink.now Memory)
    (λ seed. says_nothing g.K.Sink.written g.K.Sink.holds g.K.Sink.faults (demo_text seed) Done c.args.sink.now (λ e. cc))

pub returns-in-Err-Memory-clause-usage : goal.returns-in-Err-Memory-clause-usage
returns-in-Err-Memory-clause-usage g c = if_usage (task_of (map string_bytes c.args.words.now))
    (Says g.K.Sink.written g.K.Sink.holds g.K.Sink.faults usage_line Usage c.args.sink.now c.args.sink.now Memory)
    (says_nothing g.K.Sink.written g.K.Sink.holds g.K.Sink.faults usage_line Usage c.args.sink.now (λ e. cc))

pub returns-in-Err-Memory-clause-unread : goal.returns-in-Err-Memory-clause-unread
returns-in-Err-Memory-clause-unread g c = unless_reads (task_of (map string_bytes c.args.words.now))
    (IsLeftAlone g.S.Source.left g.S.Source.faults c.args.source.now c.args.source.now) (left_alone g.S.Source.left g.S.Source.faults c.args.source.now)
