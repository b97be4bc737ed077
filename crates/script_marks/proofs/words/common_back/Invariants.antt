use Rattle.std.proofs.Common.{length, ◌-◌, ◌≤◌}
use Rattle.script_marks.proofs.words.common_back.Given as goal

abbrev pub invariant-loop-count : goal.invariant-loop-count
invariant-loop-count l = (l.count ≤ length l.word) × (l.count ≤ length l.other)

abbrev pub decreases-loop-count : goal.decreases-loop-count
decreases-loop-count l = length l.word - l.count
