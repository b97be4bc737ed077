use Rattle.std.proofs.Common.{drop}
use Rattle.mem_base.specs.script.Run.{text_from}
use Rattle.run_laws.specs.Fitting.{AreFitting}
use Rattle.script_run.specs.Standing.{MayGoOn, state_of}
use Rattle.script_run.proofs.Writing.{Through}
use Rattle.script_run.proofs.runs.run_lines.Given as goal

abbrev pub invariant-loop-number : goal.invariant-loop-number
invariant-loop-number g l = record {
  through : Through g.K.Sink.written g.K.Sink.holds g.K.Sink.faults l.fn.sink l.sink (text_from (state_of l.fn.session) l.lines)
      (text_from (state_of l.session) (drop l.number-index l.lines));
  ready : MayGoOn l.session;
  fits : AreFitting (drop l.number-index l.lines);
}
