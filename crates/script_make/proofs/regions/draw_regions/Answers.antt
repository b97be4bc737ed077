use Rattle.script_make.specs.Draws.{first_regions}
use Rattle.rand_pcg.specs.Pcg.{pcg32}
use Rattle.script_make.proofs.Steps.{region_turn, regions_begun, regions_ended}
use Rattle.script_make.proofs.regions.draw_regions.Goals as goal

pub loop-i-init : goal.loop-i-init
loop-i-init c = regions_begun pcg32 c.args.count c.new-commands.result.items c.args.rng.now c.new-commands.ensures.items

pub loop-i-preserved : goal.loop-i-preserved
loop-i-preserved c =
    region_turn pcg32 c.args.count c.loop-i.i c.loop-i.latest c.in_ok-latest.latest c.loop-i.commands.items c.push_region.new.commands.items
    c.loop-i.rng c.push_region.new.rng _ c.loop-i-test.true c.in_ok-latest.ensures c.loop-i.invariant

pub returns : goal.returns
unfolding first_regions
returns c =
    regions_ended pcg32 c.args.count c.loop-i.i c.loop-i.latest c.loop-i.commands.items c.loop-i.rng _ c.loop-i-test.false c.loop-i.invariant
