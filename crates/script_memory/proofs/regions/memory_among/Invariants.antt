use Rattle.std.proofs.Common.{◌≡◌, ◌++◌, drop}
use Rattle.script_memory.specs.Regions.{memory_from}
use Rattle.script_memory.proofs.regions.memory_among.Given as goal

abbrev pub invariant-loop-number : goal.invariant-loop-number
invariant-loop-number l =
    l.found.items ++ memory_from l.commented l.refused l.count (drop l.number-index l.lines) ≡ memory_from l.commented l.refused 0 l.lines
