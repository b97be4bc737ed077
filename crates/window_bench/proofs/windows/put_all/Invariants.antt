use Rattle.std.proofs.Common.{◌≡◌}
use Rattle.std.specs.Prelude.{true, ◌≤◌}
use Rattle.window_bench.proofs.windows.put_all.Given as goal

abbrev pub invariant-loop-number : goal.invariant-loop-number
invariant-loop-number g l = (l.window.start.write ≡ true) × (l.window.put_end ≤ l.window.len)
