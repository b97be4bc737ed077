use Rattle.std.proofs.Common.{true, ap, ◌∙◌}
use Rattle.access_plan.specs.HostPlans.{answerer_by}
use Rattle.access_reach.proofs.ReachLaws.{AreBusLaws, nobody_takes}
use Rattle.access_reach.proofs.ChunkLaws.{unassigned}
use Rattle.access_reach.proofs.leaves.write.Goals as goal

pub returns-in-Unassigned : goal.returns-in-Unassigned
returns-in-Unassigned g c =
    let laws : AreBusLaws g.B.Bus.asks g.B.Bus.shows =
    record { begins = g.met.B.Bus.begins; goes_on = g.met.B.Bus.goes_on; stays = g.met.B.Bus.stays } in
    let f = (g.B.Bus.shows c.args.bus.now).forest in
    nobody_takes g.B.Bus.asks g.B.Bus.shows laws c.args.bus.now (answerer_by g.B.Taking.host f true c.args.target.now) c.args.bytes.now
    (ap (λ t. answerer_by g.B.Taking.host f true t) c.in-Unassigned.is ∙ unassigned g.B.Taking.host f true)
