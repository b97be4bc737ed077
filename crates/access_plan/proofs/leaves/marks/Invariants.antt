use Rattle.std.proofs.Common.{true, length}
use Rattle.mem_base.specs.access.Marks.{marks_of}
use Rattle.access_plan.specs.Lists.{IsUnderway, marks_in, moved}
use Rattle.access_plan.proofs.leaves.marks.Given as goal

abbrev pub invariant-loop-page : goal.invariant-loop-page
invariant-loop-page l =
    IsUnderway (moved true l.bytes) l.initial.list.items l.list.items (marks_in l.region (marks_of l.log l.offset l.len)) (marks_in l.region l.marks) l.at l.at

abbrev pub decreases-loop-page : goal.decreases-loop-page
decreases-loop-page l = length l.marks
