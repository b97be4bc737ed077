use Rattle.std.proofs.Common.{◌≡◌, ℕ, ◌+◌, ◌-◌, ◌≤◌, List, [], length, take, drop, true, refl, sym, ap, subst, ◌∙◌, arith}
use Rattle.mem_base.specs.declared.map.forests.Forest.{Forest}
use Rattle.mem_base.specs.access.AccessSteps.{writing, either}
use Rattle.mem_base.specs.access.Plans.{Reached}
use Rattle.mem_base.specs.access.Trails.{trail_of}
use Rattle.generation.specs.Published.{Published}
use Rattle.access_base.proofs.MemoryLaws.{part_length}
use Rattle.access_plan.specs.declared.rounds.Round.{Round}
use Rattle.access_plan.specs.HostPlans.{IsNearEnd, rounds_with_host}
use Rattle.access_plan.specs.Rounds.{IsRoundAt, bytes_in}
use Rattle.access_reach.specs.Asking.{outcome}
use Rattle.access_reach.specs.Reaching.{IsUnderway}
use Rattle.access_reach.proofs.ReachLaws.{AreBusLaws, underway_as}
use Rattle.access_reach.proofs.CoreLaws.{later, round_more, rounds_stopped}
use Rattle.access_reach.proofs.cores.core_write.Goals as goal

pub returns-in_default : goal.returns-in_default
returns-in_default g c =
    let laws : AreBusLaws g.B.Bus.asks g.B.Bus.shows =
    record { begins = g.met.B.Bus.begins; goes_on = g.met.B.Bus.goes_on; stays = g.met.B.Bus.stays } in
    let bytes : List ℕ = c.args.bytes.now in
    rounds_stopped g.B.Bus.asks g.B.Bus.shows laws true c.args.space c.args.addr (length bytes) (writing bytes) c.args.bus.now c.loop-done.bus
    c.loop-done.done (outcome [] c.loop-done.result) c.loop-done.invariant.1 c.loop-done-test.true
    (subst (λ (z : Published). IsNearEnd (trail_of z.forest true c.args.space (c.args.addr + c.loop-done.done)).target)
    c.generation.ensures c.in_default.ensures)

pub loop-done-preserved : goal.loop-done-preserved
loop-done-preserved g c =
    let laws : AreBusLaws g.B.Bus.asks g.B.Bus.shows =
    record { begins = g.met.B.Bus.begins; goes_on = g.met.B.Bus.goes_on; stays = g.met.B.Bus.stays } in
    let f : Forest = (g.B.Bus.shows c.args.bus.now).forest in
    let s = c.args.space in
    let addr : ℕ = c.args.addr in
    let bytes : List ℕ = c.args.bytes.now in
    let n : ℕ = length bytes in
    let round : Round = c.in-Some.round in
    let done : ℕ = c.loop-done.done in
    let count : ℕ = c.count_of-count.result in
    let is : count ≡ bytes_in round = c.count_of-count.ensures in
    let k : ℕ = done + count - done in
    let next : IsRoundAt (g.B.Bus.shows c.loop-done.bus).forest true s (addr + done) (n - done) round =
    subst (λ (z : Published). IsRoundAt z.forest true s (addr + done) (n - done) round) c.generation.ensures c.in-Some.ensures in
    let most : done + count ≤ n = let m = next.most in let less = c.loop-done-test.true in omega (arith, m, less, is) in
    let many : length (take k (drop done bytes)) ≡ count = part_length done count n k bytes refl most refl in
    let as_long : k ≡ bytes_in round = omega (arith, is) in
    let whole : List Reached = rounds_with_host f true s addr n (writing bytes) in
    let v = round_more g.B.Bus.asks g.B.Bus.shows laws true s addr n (writing bytes) c.args.bus.now c.loop-done.bus c.write_round.new.bus done round
    (writing (take k (drop done bytes))) [] [] c.loop-done.result c.write_round.result c.loop-done.invariant.1 next
    (ap (λ m. writing (take m (drop done bytes))) as_long) (many ∙ is) c.write_round.ensures in
    let w = subst (λ m. IsUnderway g.B.Bus.asks c.args.bus.now whole (later g.B.Bus.asks g.B.Bus.shows laws true s addr n (writing bytes) f (done + m))
    (outcome [] (either c.loop-done.result c.write_round.result)) c.write_round.new.bus) (sym is) v in (
      most,
      underway_as g.B.Bus.asks c.args.bus.now whole (later g.B.Bus.asks g.B.Bus.shows laws true s addr n (writing bytes) f (done + count)) [] []
          (either c.loop-done.result c.write_round.result) c.joined-result.result c.write_round.new.bus w refl c.joined-result.ensures,
    )
