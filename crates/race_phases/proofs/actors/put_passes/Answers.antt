use Rattle.mem_base.specs.script.Race.{block}
use Rattle.race_phases.specs.Plain.{has_lines}
use Rattle.race_phases.proofs.ActorLists.{next_put}
use Rattle.race_phases.proofs.actors.put_passes.Goals as goal

pub loop-pass-preserved : goal.loop-pass-preserved
loop-pass-preserved c = next_put (has_lines (block c.args.lines.now)) c.loop-pass.actors.items c.put_actor.new.actors.items _ c.loop-pass.pass
    c.args.count c.loop-pass-test.true c.in_ok-put_actor.ensures c.loop-pass.invariant
