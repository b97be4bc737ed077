use Rattle.std.proofs.Common.{length}
use Rattle.race_run.proofs.WritingLaws.{Through}
use Rattle.race_run.proofs.phases.write_lines.Given as goal

abbrev pub invariant-loop-end : goal.invariant-loop-end
invariant-loop-end g l = Through g.S.Sink.written g.S.Sink.holds g.S.Sink.faults l.fn.sink l.sink l.fn.text l.rest

abbrev pub decreases-loop-end : goal.decreases-loop-end
decreases-loop-end g l = length l.rest
