use Rattle.std.proofs.Common.{◌≤◌}
use Rattle.monitor_import.proofs.trees.family_len.Given as goal

abbrev pub invariant-loop-node : goal.invariant-loop-node
invariant-loop-node l = l.count ≤ l.node-index
