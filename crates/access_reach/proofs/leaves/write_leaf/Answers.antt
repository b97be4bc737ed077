use Rattle.std.proofs.Common.{◌≡◌, ℕ, true, false, List, [], ◌∷◌, length, sym, subst}
use Rattle.mem_base.specs.declared.map.spots.Spot.{Spot}
use Rattle.mem_base.specs.declared.access.accesses.Target.TheVariants.{Leaf}
use Rattle.mem_base.specs.access.AccessSteps.{writing, tx}
use Rattle.mem_base.specs.access.Marks.{marks_of}
use Rattle.generation.specs.Published.{Published}
use Rattle.mem_base.specs.access.Plans.{by_memory, memory, reached}
use Rattle.access_reach.specs.Asking.{outcome}
use Rattle.access_reach.specs.Reaching.{AllTaken, HasReached, IsMemoryBy, marks_in}
use Rattle.access_plan.specs.declared.answerers.Answerer.TheVariants as who
use Rattle.access_plan.specs.HostPlans.{answerer_by}
use Rattle.access_plan.specs.Answering.{IsAnswererBy}
use Rattle.access_reach.proofs.ReachLaws.{answers_so, AreBusLaws, reached_then, one_memory_written}
use Rattle.access_reach.proofs.leaves.write_leaf.Goals as goal

pub returns-in-Memory : goal.returns-in-Memory
returns-in-Memory g c =
    let laws : AreBusLaws g.B.Bus.asks g.B.Bus.shows =
    record { begins = g.met.B.Bus.begins; goes_on = g.met.B.Bus.goes_on; stays = g.met.B.Bus.stays } in
    let spot : Spot = c.args.spot.now in
    let f = (g.B.Bus.shows c.args.bus.now).forest in
    let bs : List ℕ = c.args.bytes.now in
    let h : IsAnswererBy g.B.Taking.host f spot true who.Memory =
    answers_so g.B.Taking.host c.has_host.result (g.B.Bus.shows c.args.bus.now) c.generation.result.now spot true who.Memory
    c.has_host.ensures c.generation.ensures c.in-Memory.ensures in
    let is : answerer_by g.B.Taking.host f true (Leaf spot) ≡ by_memory spot = h.is in
    subst (λ o. HasReached g.B.Bus.asks c.args.bus.now (reached o (writing bs)) (outcome [] (tx false false)) c.mark.new.bus) (sym is)
    (reached_then g.B.Bus.asks g.B.Bus.shows laws c.args.bus.now c.write_memory.new.self c.mark.new.bus (memory spot.leaf spot.offset (writing bs) ∷ [])
    (marks_in spot.leaf (marks_of spot.attrs.log spot.offset (length bs))) (outcome [] (tx false false)) (outcome [] (tx false false))
    (one_memory_written g.B.Bus.asks c.args.bus.now c.write_memory.new.self spot.leaf spot.offset bs c.write_memory.ensures) c.mark.ensures)

pub write_memory-requires-clause-inside : goal.write_memory-requires-clause-inside
write_memory-requires-clause-inside g c =
    let spot : Spot = c.args.spot.now in
    let h : IsAnswererBy g.B.Taking.host (g.B.Bus.shows c.args.bus.now).forest spot true who.Memory =
    answers_so g.B.Taking.host c.has_host.result (g.B.Bus.shows c.args.bus.now) c.generation.result.now spot true who.Memory
    c.has_host.ensures c.generation.ensures c.in-Memory.ensures in
    record { named = c.requires.run.named; kind = h.bytes; within = c.requires.run.within }

pub write-requires-clause-device : goal.write-requires-clause-device
write-requires-clause-device g c =
    let spot : Spot = c.args.spot.now in
    let h : IsAnswererBy g.B.Taking.host (g.B.Bus.shows c.args.bus.now).forest spot true (who.Device c.in-Device.ops) =
    answers_so g.B.Taking.host c.has_host.result (g.B.Bus.shows c.args.bus.now) c.generation.result.now spot true (who.Device c.in-Device.ops)
    c.has_host.ensures c.generation.ensures c.in-Device.ensures in
    record { named = c.requires.run.named; kind = h.sound.kind }

pub write_memory-requires-clause-takes : goal.write_memory-requires-clause-takes
write_memory-requires-clause-takes g c =
    let spot : Spot = c.args.spot.now in
    let f = (g.B.Bus.shows c.args.bus.now).forest in
    let h : IsAnswererBy g.B.Taking.host f spot true who.Memory =
    answers_so g.B.Taking.host c.has_host.result (g.B.Bus.shows c.args.bus.now) c.generation.result.now spot true who.Memory
    c.has_host.ensures c.generation.ensures c.in-Memory.ensures in
    let is : answerer_by g.B.Taking.host f true (Leaf spot) ≡ by_memory spot = h.is in
    (subst (λ o. AllTaken g.B.Taking.takes c.args.bus.now (reached o (writing c.args.bytes.now))) is c.requires.takes).0

pub mark-requires-clause-memory : goal.mark-requires-clause-memory
mark-requires-clause-memory g c =
    let spot : Spot = c.args.spot.now in
    let f = (g.B.Bus.shows c.args.bus.now).forest in
    let h : IsAnswererBy g.B.Taking.host f spot true who.Memory =
    answers_so g.B.Taking.host c.has_host.result (g.B.Bus.shows c.args.bus.now) c.generation.result.now spot true who.Memory
    c.has_host.ensures c.generation.ensures c.in-Memory.ensures in
    let kept = g.met.B.Bus.stays c.args.bus.now c.write_memory.new.self _ _ c.write_memory.ensures in
    subst (λ (z : Published). IsMemoryBy g.B.Taking.host z.forest spot.leaf) (sym kept) h.bytes

pub write-requires-clause-takes : goal.write-requires-clause-takes
write-requires-clause-takes g c =
    let spot : Spot = c.args.spot.now in
    let f = (g.B.Bus.shows c.args.bus.now).forest in
    let h : IsAnswererBy g.B.Taking.host f spot true (who.Device c.in-Device.ops) =
    answers_so g.B.Taking.host c.has_host.result (g.B.Bus.shows c.args.bus.now) c.generation.result.now spot true (who.Device c.in-Device.ops)
    c.has_host.ensures c.generation.ensures c.in-Device.ensures in
    subst (λ o. AllTaken g.B.Taking.takes c.args.bus.now (reached o (writing c.args.bytes.now))) h.is c.requires.takes
