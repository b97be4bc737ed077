use Rattle.std.proofs.Common.{length}
use Rattle.script_run.proofs.Writing.{Through}
use Rattle.script_run.proofs.pieces.write_lines.Given as goal

abbrev pub invariant-loop-rest : goal.invariant-loop-rest
invariant-loop-rest g l = Through g.K.Sink.written g.K.Sink.holds g.K.Sink.faults l.fn.sink l.sink l.text l.rest

abbrev pub decreases-loop-rest : goal.decreases-loop-rest
decreases-loop-rest g l = length l.rest
