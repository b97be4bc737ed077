use Rattle.std.proofs.Common.{◌≡◌, ◌++◌, drop}
use Rattle.std.specs.Prelude.{flat_map}
use Rattle.script_lint.specs.Transactions.{open_text}
use Rattle.script_lint.proofs.transactions.add_each.Given as goal

abbrev pub invariant-loop-number : goal.invariant-loop-number
invariant-loop-number l = l.out ++ flat_map open_text (drop l.number-index l.begun) ≡ l.fn.out ++ flat_map open_text l.fn.begun
