use Rattle.std.proofs.Common.{◌≡◌, Ok}
use Rattle.std.specs.Prelude.{take}
use Rattle.race_laws.specs.Outside.{phases_alone}
use Rattle.race_run.specs.Racing.{Goes, IsReady}
use Rattle.race_run.proofs.phases.go_lines.Given as goal

abbrev pub invariant-loop-number : goal.invariant-loop-number
invariant-loop-number g l = IsReady l.racer
    × Goes g.S.Sink.written g.S.Sink.holds g.S.Sink.faults l.fn.sink l.sink (phases_alone (take l.number-index l.lines)) l.fn.racer l.racer (Ok tt)
    × (l.bounce ≡ l.fn.bounce)
