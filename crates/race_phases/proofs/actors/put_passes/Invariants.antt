use Rattle.std.proofs.Common.{◌≡◌, ◌++◌, ◌-◌, filter}
use Rattle.std.specs.List.{range_with_len}
use Rattle.mem_base.specs.script.Race.{block}
use Rattle.race_phases.specs.Plain.{has_lines}
use Rattle.race_phases.proofs.actors.put_passes.Given as goal

abbrev pub invariant-loop-pass : goal.invariant-loop-pass
invariant-loop-pass l =
    l.actors.items ++ filter (has_lines (block l.lines)) (range_with_len l.pass (l.count - l.pass))
    ≡ l.initial.actors.items ++ filter (has_lines (block l.lines)) (range_with_len 0 l.count)
