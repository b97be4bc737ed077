use Rattle.std.proofs.Common.{ℕ, ◌+◌, ◌-◌, ◌≤◌, List, [], take, drop, true, ap, refl, ◌∙◌, arith}
use Rattle.std.specs.Prelude.{flat_map}
use Rattle.mem_base.specs.declared.map.forests.Forest.{Forest}
use Rattle.mem_base.specs.access.Trails.{trail_of, chunks, first_length}
use Rattle.mem_base.specs.access.AccessSteps.{writing, either}
use Rattle.generation.specs.Published.{Published}
use Rattle.mem_base.specs.access.Plans.{Reached, reached}
use Rattle.access_reach.specs.Reaching.{in_chunk, plan_below}
use Rattle.access_reach.proofs.ReachLaws.{AreBusLaws, underway_as, underway_shows}
use Rattle.access_reach.proofs.TakenLaws.{taken_lasts}
use Rattle.access_reach.specs.Asking.{outcome}
use Rattle.access_plan.specs.HostPlans.{answerer_by}
use Rattle.access_reach.proofs.ChunkLaws.{write_more, takes_more}
use Rattle.access_reach.proofs.accesses.write_below.Goals as goal

pub loop-done-preserved : goal.loop-done-preserved
loop-done-preserved g c =
    let laws : AreBusLaws g.B.Bus.asks g.B.Bus.shows =
    record { begins = g.met.B.Bus.begins; goes_on = g.met.B.Bus.goes_on; stays = g.met.B.Bus.stays } in
    let f : Forest = (g.B.Bus.shows c.args.bus.now).forest in
    let s = c.args.space in
    let addr : ℕ = c.args.addr in
    let below : ℕ = c.args.below in
    let bytes : List ℕ = c.args.bytes.now in
    let done : ℕ = c.loop-done.done in
    let count : ℕ = c.first_chunk-target.result.1 in
    let k : ℕ = done + count - done in
    let inv = c.loop-done.invariant in
    let most : done + count ≤ below = omega (arith, c.first_chunk-target.ensures.most, c.loop-done-test.true) in
    let whole : List Reached = plan_below g.B.Taking.host f s addr (writing bytes) below in
    let later : List Reached = flat_map (in_chunk g.B.Taking.host f s addr (writing bytes)) (chunks f true s (addr + (done + count)) (below - (done + count))) in
    let target = c.first_chunk-target.ensures.target ∙ ap (λ (z : Published). (trail_of z.forest true s (addr + done)).target) c.generation.ensures in
    let len = c.first_chunk-target.ensures.len
    ∙ ap (λ (z : Published). first_length (chunks z.forest true s (addr + done) (below - done))) c.generation.ensures in
    let rest : List Reached = flat_map (in_chunk g.B.Taking.host f s addr (writing bytes)) (chunks f true s (addr + done) (below - done)) in
    let same = underway_shows g.B.Bus.asks g.B.Bus.shows laws c.args.bus.now c.loop-done.bus whole rest (outcome [] c.loop-done.result) inv.1 in
    let all = takes_more g.B.Bus.asks g.B.Bus.shows laws g.B.Taking.host g.B.Taking.takes c.args.bus.now c.loop-done.bus s addr below done count k
    c.first_chunk-target.result.0 bytes same c.loop-done-test.true target len refl inv.2 in
    let v = write_more g.B.Bus.asks g.B.Bus.shows laws g.B.Taking.host c.args.bus.now c.loop-done.bus c.write.new.bus s addr below done count k
    c.first_chunk-target.result.0 bytes c.loop-done.result c.write.result inv.1 c.loop-done-test.true target len refl c.write.ensures in (
      most,
      underway_as g.B.Bus.asks c.args.bus.now whole later [] []
          (either c.loop-done.result c.write.result) c.joined-result.result c.write.new.bus v refl c.joined-result.ensures,
      taken_lasts g.B.Bus.asks g.B.Taking.takes g.met.B.Taking.lasts c.loop-done.bus c.write.new.bus
          (reached (answerer_by g.B.Taking.host (g.B.Bus.shows c.loop-done.bus).forest true c.first_chunk-target.result.0) (writing (take k (drop done bytes))))
          (outcome [] c.write.result) c.write.ensures later all.1,
    )

pub write-requires-clause-takes : goal.write-requires-clause-takes
write-requires-clause-takes g c =
    let laws : AreBusLaws g.B.Bus.asks g.B.Bus.shows =
    record { begins = g.met.B.Bus.begins; goes_on = g.met.B.Bus.goes_on; stays = g.met.B.Bus.stays } in
    let f : Forest = (g.B.Bus.shows c.args.bus.now).forest in
    let s = c.args.space in
    let addr : ℕ = c.args.addr in
    let below : ℕ = c.args.below in
    let bytes : List ℕ = c.args.bytes.now in
    let done : ℕ = c.loop-done.done in
    let count : ℕ = c.first_chunk-target.result.1 in
    let inv = c.loop-done.invariant in
    let whole : List Reached = plan_below g.B.Taking.host f s addr (writing bytes) below in
    let rest : List Reached = flat_map (in_chunk g.B.Taking.host f s addr (writing bytes)) (chunks f true s (addr + done) (below - done)) in
    let same = underway_shows g.B.Bus.asks g.B.Bus.shows laws c.args.bus.now c.loop-done.bus whole rest (outcome [] c.loop-done.result) inv.1 in
    let target = c.first_chunk-target.ensures.target ∙ ap (λ (z : Published). (trail_of z.forest true s (addr + done)).target) c.generation.ensures in
    let len = c.first_chunk-target.ensures.len
    ∙ ap (λ (z : Published). first_length (chunks z.forest true s (addr + done) (below - done))) c.generation.ensures in
    (takes_more g.B.Bus.asks g.B.Bus.shows laws g.B.Taking.host g.B.Taking.takes c.args.bus.now c.loop-done.bus s addr below done count
    (done + count - done) c.first_chunk-target.result.0 bytes same c.loop-done-test.true target len refl inv.2).0
