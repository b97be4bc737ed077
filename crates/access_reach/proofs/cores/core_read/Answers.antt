use Rattle.std.proofs.Common.{◌≡◌, ℕ, ◌+◌, ◌-◌, ◌≤◌, List, ◌++◌, length, take, drop, false, refl, sym, ap, subst, ◌∙◌, arith}
use Rattle.std.proofs.lemmas.Slice.{take-put_mid}
use Rattle.mem_base.specs.declared.map.forests.Forest.{Forest}
use Rattle.mem_base.specs.access.AccessSteps.{reading, either}
use Rattle.mem_base.specs.access.Plans.{Reached}
use Rattle.mem_base.specs.access.Trails.{trail_of}
use Rattle.generation.specs.Published.{Published}
use Rattle.access_base.proofs.MemoryLaws.{part_length}
use Rattle.access_plan.specs.declared.rounds.Round.{Round}
use Rattle.access_plan.specs.HostPlans.{IsNearEnd, rounds_with_host}
use Rattle.access_plan.specs.Rounds.{IsRoundAt, bytes_in}
use Rattle.access_reach.specs.Asking.{outcome}
use Rattle.access_reach.specs.Reaching.{IsUnderway}
use Rattle.access_reach.proofs.ReachLaws.{AreBusLaws, underway_as}
use Rattle.access_reach.proofs.CoreLaws.{later, round_more, rounds_stopped}
use Rattle.access_reach.proofs.cores.core_read.Goals as goal

pub returns-in_default : goal.returns-in_default
returns-in_default g c =
    let laws : AreBusLaws g.B.Bus.asks g.B.Bus.shows =
    record { begins = g.met.B.Bus.begins; goes_on = g.met.B.Bus.goes_on; stays = g.met.B.Bus.stays } in
    let n : ℕ = length c.args.out.now in
    let less : c.loop-done.done + 1 ≤ n = omega (arith, c.loop-done-test.true, c.loop-done.auto.out) in
    rounds_stopped g.B.Bus.asks g.B.Bus.shows laws false c.args.space c.args.addr n (reading n) c.args.bus.now c.loop-done.bus c.loop-done.done
    (outcome (take c.loop-done.done c.loop-done.out) c.loop-done.result) c.loop-done.invariant.1 (omega (arith, less))
    (subst (λ (z : Published). IsNearEnd (trail_of z.forest false c.args.space (c.args.addr + c.loop-done.done)).target)
    c.generation.ensures c.in_default.ensures)

pub loop-done-preserved : goal.loop-done-preserved
loop-done-preserved g c =
    let laws : AreBusLaws g.B.Bus.asks g.B.Bus.shows =
    record { begins = g.met.B.Bus.begins; goes_on = g.met.B.Bus.goes_on; stays = g.met.B.Bus.stays } in
    let f : Forest = (g.B.Bus.shows c.args.bus.now).forest in
    let s = c.args.space in
    let addr : ℕ = c.args.addr in
    let n : ℕ = length c.args.out.now in
    let round : Round = c.in-Some.round in
    let done : ℕ = c.loop-done.done in
    let count : ℕ = c.count_of-count.result in
    let is : count ≡ bytes_in round = c.count_of-count.ensures in
    let out : List ℕ = c.loop-done.out in
    let got : List ℕ = c.read_round.new.out in
    let k : ℕ = done + count - done in
    let all : length out ≡ n = c.loop-done.auto.out in
    let next : IsRoundAt (g.B.Bus.shows c.loop-done.bus).forest false s (addr + done) (n - done) round =
    subst (λ (z : Published). IsRoundAt z.forest false s (addr + done) (n - done) round) c.generation.ensures
    (subst (λ m. IsRoundAt c.generation.result.now.forest false s (addr + done) (m - done) round) all c.in-Some.ensures) in
    let most : done + count ≤ n = let m = next.most in let less = c.loop-done-test.true in omega (arith, m, less, is, all) in
    let many : length (take k (drop done out)) ≡ count = part_length done count n k out all most refl in
    let as_many : length got ≡ length (take k (drop done out)) = c.read_round.auto.out in
    let end : done + count ≡ done + length got = omega (arith, as_many, many) in
    let inside : done ≤ length out = omega (arith, most, all) in
    let whole : List Reached = rounds_with_host f false s addr n (reading n) in
    let v = round_more g.B.Bus.asks g.B.Bus.shows laws false s addr n (reading n) c.args.bus.now c.loop-done.bus c.read_round.new.bus done round
    (reading (length (take k (drop done out)))) (take done out) got c.loop-done.result c.read_round.result c.loop-done.invariant.1 next
    (ap reading (many ∙ is)) (many ∙ is) c.read_round.ensures in
    let w = subst (λ m. IsUnderway g.B.Bus.asks c.args.bus.now whole (later g.B.Bus.asks g.B.Bus.shows laws false s addr n (reading n) f (done + m))
    (outcome (take done out ++ got) (either c.loop-done.result c.read_round.result)) c.read_round.new.bus) (sym is) v in (
      most,
      underway_as g.B.Bus.asks c.args.bus.now whole (later g.B.Bus.asks g.B.Bus.shows laws false s addr n (reading n) f (done + count)) (take done out ++ got) _
          (either c.loop-done.result c.read_round.result) c.joined-result.result c.read_round.new.bus w
          (sym (take-put_mid done k out got (done + count) end inside)) c.joined-result.ensures,
    )
