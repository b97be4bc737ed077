use Rattle.std.proofs.Common.{◌≡◌, drop}
use Rattle.mem_base.specs.script.Race.{block}
use Rattle.race_phases.specs.Plain.{has_lines}
use Rattle.race_phases.proofs.actors.has_line.Given as goal

abbrev pub invariant-loop-line : goal.invariant-loop-line
invariant-loop-line l = has_lines (block (drop l.line-index l.lines)) l.who ≡ has_lines (block l.lines) l.who
