use Rattle.std.proofs.Common.{◌≡◌, false, length, sym, subst}
use Rattle.mem_base.specs.declared.map.spots.Spot.{Spot}
use Rattle.mem_base.specs.declared.access.accesses.Target.TheVariants.{Leaf}
use Rattle.mem_base.specs.access.AccessSteps.{reading, tx}
use Rattle.mem_base.specs.access.Plans.{by_memory, reached}
use Rattle.access_reach.specs.Asking.{outcome}
use Rattle.access_reach.specs.Reaching.{HasReached}
use Rattle.access_plan.specs.declared.answerers.Answerer.TheVariants as who
use Rattle.access_plan.specs.HostPlans.{answerer_by}
use Rattle.access_plan.specs.Answering.{IsAnswererBy}
use Rattle.access_reach.proofs.ReachLaws.{answers_so, one_memory_read}
use Rattle.access_reach.proofs.leaves.read_leaf.Goals as goal

pub read-requires-clause-within : goal.read-requires-clause-within
read-requires-clause-within g c =
    let spot : Spot = c.args.spot.now in
    let h : IsAnswererBy g.B.Answering.host (g.B.Bus.shows c.args.bus.now).forest spot false (who.Device c.in-Device.ops) =
    answers_so g.B.Answering.host c.has_host.result (g.B.Bus.shows c.args.bus.now) c.generation.result.now spot false (who.Device c.in-Device.ops)
    c.has_host.ensures c.generation.ensures c.in-Device.ensures in
    h.sound.fits (length c.args.out.now) c.requires

pub returns-in-Memory : goal.returns-in-Memory
returns-in-Memory g c =
    let spot : Spot = c.args.spot.now in
    let f = (g.B.Bus.shows c.args.bus.now).forest in
    let h : IsAnswererBy g.B.Answering.host f spot false who.Memory =
    answers_so g.B.Answering.host c.has_host.result (g.B.Bus.shows c.args.bus.now) c.generation.result.now spot false who.Memory
    c.has_host.ensures c.generation.ensures c.in-Memory.ensures in
    let is : answerer_by g.B.Answering.host f false (Leaf spot) ≡ by_memory spot = h.is in
    subst (λ o. HasReached g.B.Bus.asks c.args.bus.now (reached o (reading (length c.args.out.now))) (outcome c.read_memory.new.out (tx false false))
    c.read_memory.new.self) (sym is)
    (one_memory_read g.B.Bus.asks c.args.bus.now c.read_memory.new.self spot.leaf spot.offset (length c.args.out.now) c.read_memory.new.out
    c.read_memory.ensures)

pub read_memory-requires : goal.read_memory-requires
read_memory-requires g c =
    let spot : Spot = c.args.spot.now in
    let h : IsAnswererBy g.B.Answering.host (g.B.Bus.shows c.args.bus.now).forest spot false who.Memory =
    answers_so g.B.Answering.host c.has_host.result (g.B.Bus.shows c.args.bus.now) c.generation.result.now spot false who.Memory
    c.has_host.ensures c.generation.ensures c.in-Memory.ensures in
    record { inside = record { named = c.requires.named; kind = h.bytes; within = c.requires.within } }

pub read-requires-clause-device : goal.read-requires-clause-device
read-requires-clause-device g c =
    let spot : Spot = c.args.spot.now in
    let h : IsAnswererBy g.B.Answering.host (g.B.Bus.shows c.args.bus.now).forest spot false (who.Device c.in-Device.ops) =
    answers_so g.B.Answering.host c.has_host.result (g.B.Bus.shows c.args.bus.now) c.generation.result.now spot false (who.Device c.in-Device.ops)
    c.has_host.ensures c.generation.ensures c.in-Device.ensures in
    record { named = c.requires.named; kind = h.sound.kind }
