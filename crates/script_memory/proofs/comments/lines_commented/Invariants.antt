use Rattle.std.proofs.Common.{◌≡◌, ◌==◌, ◌++◌, length, map}
use Rattle.std.specs.List.{slice_split}
use Rattle.script_memory.specs.Comments.{is_commented, lines_commented}
use Rattle.script_memory.proofs.comments.lines_commented.Given as goal

abbrev pub invariant-loop-end : goal.invariant-loop-end
invariant-loop-end l = l.lines.items ++ map is_commented (slice_split (λ b. b == 10) l.rest) ≡ lines_commented l.text

abbrev pub decreases-loop-end : goal.decreases-loop-end
decreases-loop-end l = length l.rest
