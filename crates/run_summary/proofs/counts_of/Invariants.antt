use Rattle.std.proofs.Common.{◌≡◌, ◌≤◌, ◌+◌, length}
use Rattle.mem_base.specs.script.Summary.{lines_in}
use Rattle.run_summary.specs.Counted.{after_lines, counted}
use Rattle.run_summary.proofs.counts_of.Given as goal

abbrev pub invariant-loop-end : goal.invariant-loop-end
invariant-loop-end l =
    (l.counts.lines + length l.rest ≤ length l.text) × (after_lines l.counts (lines_in l.rest) ≡ counted (lines_in l.text))

abbrev pub decreases-loop-end : goal.decreases-loop-end
decreases-loop-end l = length l.rest
