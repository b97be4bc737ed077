use Rattle.script_make.specs.Draws.{first_accesses}
use Rattle.rand_pcg.specs.Pcg.{pcg32}
use Rattle.script_make.proofs.Steps.{access_turn, accesses_begun, accesses_ended}
use Rattle.script_make.proofs.accesses.draw_accesses.Goals as goal

pub loop-t-init : goal.loop-t-init
loop-t-init c = accesses_begun pcg32 c.args.count c.new-commands.result.items c.args.rng.now c.new-commands.ensures.items

pub loop-t-preserved : goal.loop-t-preserved
loop-t-preserved c =
    access_turn pcg32 c.args.count c.loop-t.t c.loop-t.commands.items c.push_access.new.commands.items
    c.loop-t.rng c.push_access.new.rng _ c.loop-t-test.true c.in_ok-push_access.ensures c.loop-t.invariant

pub returns : goal.returns
unfolding first_accesses
returns c = accesses_ended pcg32 c.args.count c.loop-t.t c.loop-t.commands.items c.loop-t.rng _ c.loop-t-test.false c.loop-t.invariant
