use Rattle.std.proofs.Common.{◌≡◌, ◌≤◌, ◌+◌, ◌==◌, length}
use Rattle.std.specs.List.{slice_split}
use Rattle.monitor_text.specs.Rows.{flat_line}
use Rattle.monitor_text.specs.Texts.{behind_lines, lines_from, lines_of}
use Rattle.monitor_text.proofs.lines.read_flat.Given as goal

abbrev pub invariant-loop-end : goal.invariant-loop-end
invariant-loop-end l = (l.number + length l.rest ≤ 1 + length l.text)
    × (behind_lines l.lines.items (lines_from flat_line l.number (slice_split (λ b. b == 10) l.rest)) ≡ lines_of flat_line l.text)

abbrev pub decreases-loop-end : goal.decreases-loop-end
decreases-loop-end l = length l.rest
