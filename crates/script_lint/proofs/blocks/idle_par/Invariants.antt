use Rattle.std.proofs.Common.{◌≡◌, length}
use Rattle.script_lint.specs.Blocks.{idle_par}
use Rattle.script_lint.proofs.blocks.idle_par.Given as goal

abbrev pub invariant-loop-line : goal.invariant-loop-line
invariant-loop-line l = idle_par l.left ≡ idle_par l.lines

abbrev pub decreases-loop-line : goal.decreases-loop-line
decreases-loop-line l = length l.left
