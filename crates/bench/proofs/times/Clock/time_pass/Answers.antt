use Rattle.std.proofs.Common.{rules, sym, ◌∙◌}
use Rattle.bench.proofs.PlaceLaws.{has_found}
use Rattle.bench.proofs.times.Clock.time_pass.Goals as goal

pub loop-word-init : goal.loop-word-init
loop-word-init c =
    (search rules, (c.generation.result.now, c.generation.ensures, has_found _ _ _ (sym c.place_of.ensures.value ∙ c.in-Some.is)))
