use Rattle.std.proofs.Common.{◌≡◌, ℕ, ◌+◌, ◌-◌, ◌≤◌, List, ◌++◌, length, take, drop, false, sym, ap, refl, ◌∙◌, arith}
use Rattle.std.specs.Prelude.{flat_map}
use Rattle.std.proofs.lemmas.Slice.{take-put_mid}
use Rattle.mem_base.specs.declared.map.forests.Forest.{Forest}
use Rattle.mem_base.specs.access.Trails.{trail_of, chunks, first_length}
use Rattle.mem_base.specs.access.AccessSteps.{reading, either}
use Rattle.generation.specs.Published.{Published}
use Rattle.access_base.proofs.MemoryLaws.{part_length}
use Rattle.mem_base.specs.access.Plans.{Reached}
use Rattle.access_reach.specs.Reaching.{in_chunk, plan_below}
use Rattle.access_reach.proofs.ReachLaws.{AreBusLaws, underway_as}
use Rattle.access_reach.proofs.ChunkLaws.{read_more}
use Rattle.access_reach.proofs.accesses.read_below.Goals as goal

pub loop-done-preserved : goal.loop-done-preserved
loop-done-preserved g c =
    let laws : AreBusLaws g.B.Bus.asks g.B.Bus.shows =
    record { begins = g.met.B.Bus.begins; goes_on = g.met.B.Bus.goes_on; stays = g.met.B.Bus.stays } in
    let f : Forest = (g.B.Bus.shows c.args.bus.now).forest in
    let s = c.args.space in
    let addr : ℕ = c.args.addr in
    let below : ℕ = c.args.below in
    let done : ℕ = c.loop-done.done in
    let count : ℕ = c.first_chunk-target.result.1 in
    let n : ℕ = length c.args.out.now in
    let out : List ℕ = c.loop-done.out in
    let got : List ℕ = c.read.new.out in
    let k : ℕ = done + count - done in
    let all : length out ≡ n = c.loop-done.auto.out in
    let most : done + count ≤ below = omega (arith, c.first_chunk-target.ensures.most, c.loop-done-test.true) in
    let fits : done + count ≤ n = omega (arith, most, c.requires.most) in
    let many : length (take k (drop done out)) ≡ count = part_length done count n k out all fits refl in
    let as_many : length got ≡ length (take k (drop done out)) = c.read.auto.out in
    let end : done + count ≡ done + length got = omega (arith, as_many, many) in
    let inside : done ≤ length out = omega (arith, fits, all) in
    let whole : List Reached = plan_below g.B.Answering.host f s addr (reading n) below in
    let later : List Reached = flat_map (in_chunk g.B.Answering.host f s addr (reading n)) (chunks f false s (addr + (done + count)) (below - (done + count))) in
    let target = c.first_chunk-target.ensures.target ∙ ap (λ (z : Published). (trail_of z.forest false s (addr + done)).target) c.generation.ensures in
    let len = c.first_chunk-target.ensures.len
    ∙ ap (λ (z : Published). first_length (chunks z.forest false s (addr + done) (below - done))) c.generation.ensures in
    let v = read_more g.B.Bus.asks g.B.Bus.shows laws g.B.Answering.host c.args.bus.now c.loop-done.bus c.read.new.bus s addr n below done count
    (length (take k (drop done out))) c.first_chunk-target.result.0 (take done out) got c.loop-done.result c.read.result c.loop-done.invariant.1
    c.loop-done-test.true target len many c.read.ensures in (
      most,
      underway_as g.B.Bus.asks c.args.bus.now whole later (take done out ++ got) _
          (either c.loop-done.result c.read.result) c.joined-result.result c.read.new.bus v
          (sym (take-put_mid done k out got (done + count) end inside)) c.joined-result.ensures,
    )
