use Rattle.std.proofs.Common.{◌≡◌, ◌≤◌, ◌+◌, length, ◌==◌}
use Rattle.std.specs.List.{slice_split}
use Rattle.mem_base.specs.declared.script.places.Section.TheVariants.{Start}
use Rattle.mem_base.specs.script.Scripts.{script_from}
use Rattle.script_text.specs.Parses.{prepend}
use Rattle.script_text.proofs.scripts.lines_of.Given as goal

abbrev pub invariant-loop-end : goal.invariant-loop-end
invariant-loop-end l = (l.line + length l.rest ≤ 1 + length l.text)
    × (prepend l.lines (script_from l.section l.line (slice_split (λ b. b == 10) l.rest)) ≡ script_from Start 1 (slice_split (λ b. b == 10) l.text))

abbrev pub decreases-loop-end : goal.decreases-loop-end
decreases-loop-end l = length l.rest
