use Rattle.std.proofs.Common.{◌≡◌, ◌++◌, drop, map}
use Rattle.mem_base.specs.script.Race.{block, lines_by}
use Rattle.race_phases.proofs.actors.lines_by.Given as goal

abbrev pub invariant-loop-line : goal.invariant-loop-line
invariant-loop-line l =
    map (λ line. line.now) l.own.items ++ lines_by l.who (block (drop l.line-index l.lines)) ≡ lines_by l.who (block l.lines)
