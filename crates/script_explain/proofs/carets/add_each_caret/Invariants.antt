use Rattle.std.proofs.Common.{◌≡◌, ◌++◌, drop}
use Rattle.std.specs.Prelude.{codes, flat_map}
use Rattle.script_explain.proofs.carets.add_each_caret.Given as goal

abbrev pub invariant-loop : goal.invariant-loop
invariant-loop l = l.out ++ flat_map (λ b. codes "^") (drop l.index l.bytes) ≡ l.fn.out ++ flat_map (λ b. codes "^") l.fn.bytes
