use Rattle.rand_pcg.specs.Pcg.{pcg32}
use Rattle.script_make.proofs.Steps.{script_drawn}
use Rattle.script_make.specs.Texts.{commands_of_seed}
use Rattle.script_make.proofs.scripts.generated.Goals as goal

pub returns : goal.returns
unfolding commands_of_seed
returns c =
    script_drawn pcg32 _ c.new-rng.result c.draw_regions.new.rng c.draw_accesses.new.rng c.in_ok-regions.regions.items c.in_ok-accesses.accesses.items
    c.in_ok-commands.commands.items c.new-rng.ensures c.in_ok-commands.ensures c.in_ok-regions.ensures c.in_ok-accesses.ensures
