use Rattle.std.proofs.Common.{◌≡◌, ◌++◌}
use Rattle.scope_lines.specs.Whys.{indent}
use Rattle.scope_lines.proofs.looks.add_indent.Given as goal

abbrev pub invariant-loop-left : goal.invariant-loop-left
invariant-loop-left l = l.line ++ indent l.left ≡ l.fn.line ++ indent l.fn.depth

abbrev pub decreases-loop-left : goal.decreases-loop-left
decreases-loop-left l = l.left
