use Rattle.std.proofs.Common.{false, length, ap, ◌∙◌}
use Rattle.access_plan.specs.HostPlans.{answerer_by}
use Rattle.access_reach.proofs.ReachLaws.{AreBusLaws, nobody_reads}
use Rattle.access_reach.proofs.ChunkLaws.{unassigned}
use Rattle.access_reach.proofs.leaves.read.Goals as goal

pub returns-in-Unassigned : goal.returns-in-Unassigned
returns-in-Unassigned g c =
    let laws : AreBusLaws g.B.Bus.asks g.B.Bus.shows =
    record { begins = g.met.B.Bus.begins; goes_on = g.met.B.Bus.goes_on; stays = g.met.B.Bus.stays } in
    let f = (g.B.Bus.shows c.args.bus.now).forest in
    nobody_reads g.B.Bus.asks g.B.Bus.shows laws c.args.bus.now (answerer_by g.B.Answering.host f false c.args.target.now) (length c.args.out.now)
    c.fill.new.self (ap (λ t. answerer_by g.B.Answering.host f false t) c.in-Unassigned.is ∙ unassigned g.B.Answering.host f false)
    (c.fill.ensures.after (λ y e. cc))
