use Rattle.std.proofs.Common.{◌≡◌}
use Rattle.kept_generations.proofs.ListLaws.{mapped_to}
use Rattle.kept_generations.proofs.passes.set_each.Given as goal

abbrev pub invariant-loop-flag : goal.invariant-loop-flag
invariant-loop-flag l = l.flags ≡ mapped_to (λ flag. l.value) l.flag-index l.fn.flags
