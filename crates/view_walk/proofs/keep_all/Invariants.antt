use Rattle.std.proofs.Common.{[], drop}
use Rattle.view_walk.proofs.SideLaws.{IsWalking}
use Rattle.view_walk.proofs.keep_all.Given as goal

-- what was told, and the ranges that are left
abbrev pub invariant-loop-range : goal.invariant-loop-range
invariant-loop-range l = IsWalking l.ranges l.ranges [] l.steps.items (drop l.range-index l.ranges) (drop l.range-index l.ranges)
