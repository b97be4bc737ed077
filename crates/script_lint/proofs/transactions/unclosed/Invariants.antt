use Rattle.std.proofs.Common.{◌≡◌, [], drop}
use Rattle.script_lint.specs.Transactions.{open_after}
use Rattle.script_lint.proofs.transactions.unclosed.Given as goal

abbrev pub invariant-loop-line : goal.invariant-loop-line
invariant-loop-line l = open_after l.refused l.begun.items (drop l.line-index l.lines) ≡ open_after l.refused [] l.lines
