use Rattle.std.proofs.Common.{◌≡◌, ℕ, ◌+◌, ◌-◌, ◌^◌, List, [], length, sym, subst, arith}
use Rattle.mem_base.specs.map.Forest.{IsMade}
use Rattle.mem_base.specs.access.AccessSteps.{writing}
use Rattle.generation.specs.Published.{Published}
use Rattle.access_plan.specs.HostPlans.{plan_by}
use Rattle.access_reach.specs.Asking.{outcome}
use Rattle.access_reach.specs.Reaching.{HasReached}
use Rattle.access_base.proofs.ChunkLaws.{at_end}
use Rattle.access_reach.proofs.ReachLaws.{AreBusLaws}
use Rattle.access_reach.proofs.ChunkLaws.{write_past, takes_first}
use Rattle.access_reach.proofs.accesses.write_by.Goals as goal

pub returns-then-below-bytes : goal.returns-then-below-bytes
returns-then-below-bytes g c =
    let laws : AreBusLaws g.B.Bus.asks g.B.Bus.shows =
    record { begins = g.met.B.Bus.begins; goes_on = g.met.B.Bus.goes_on; stays = g.met.B.Bus.stays } in
    let bytes : List ℕ = c.args.bytes.now in
    let below : ℕ = c.reach-below.result in
    let made : IsMade (g.B.Bus.shows c.args.bus.now).forest = subst (λ (z : Published). IsMade z.forest) c.generation.ensures c.knows_forest.ensures in
    let at : c.args.addr + below ≡ 2 ^ 64 =
    at_end c.args.addr below (length bytes) c.if-below-bytes.true c.reach-below.ensures.all c.reach-below.ensures.past in
    subst (λ q. HasReached g.B.Bus.asks c.args.bus.now (plan_by g.B.Taking.host (g.B.Bus.shows c.args.bus.now).forest c.args.space c.args.addr (writing bytes))
    (outcome [] q)
    c.write_below-result.new.bus) (sym c.joined.ensures)
    (write_past g.B.Bus.asks g.B.Bus.shows laws g.B.Taking.host c.args.bus.now c.write_below-result.new.bus c.args.space c.args.addr below
    (length bytes - below) bytes c.write_below-result.result made at (omega (arith, c.if-below-bytes.true)) (omega (arith, c.if-below-bytes.true))
    c.write_below-result.ensures)

pub write_below-result-requires-clause-takes : goal.write_below-result-requires-clause-takes
write_below-result-requires-clause-takes g c =
    let made : IsMade (g.B.Bus.shows c.args.bus.now).forest = subst (λ (z : Published). IsMade z.forest) c.generation.ensures c.knows_forest.ensures in
    takes_first g.B.Taking.host (g.B.Bus.shows c.args.bus.now).forest g.B.Taking.takes c.args.bus.now c.args.space c.args.addr c.reach-below.result
    c.args.bytes.now made c.reach-below.ensures.most c.reach-below.ensures.all c.reach-below.ensures.past c.requires
