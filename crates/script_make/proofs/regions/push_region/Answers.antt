use Rattle.rand_pcg.specs.Pcg.{pcg32}
use Rattle.script_make.proofs.Steps.{region_pushed}
use Rattle.script_make.proofs.regions.push_region.Goals as goal

pub returns : goal.returns
returns c = rw c.latest_after.ensures
    (region_pushed pcg32 c.args.i c.args.latest _ c.push_made.new.commands.items _ c.draw_kind-kind.result c.args.rng.now c.draw_kind-kind.new.rng
    c.push_made.new.rng c.push_placed.new.rng c.draw_kind-kind.ensures.value c.in_ok-push_made.ensures c.in_ok-push_placed.ensures)
