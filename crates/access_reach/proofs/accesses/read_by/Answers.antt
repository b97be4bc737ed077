use Rattle.std.proofs.Common.{◌≡◌, ℕ, ◌+◌, ◌-◌, ◌^◌, ◌<◌, List, [], ◌++◌, length, take, drop, sym, ap, subst, ◌∙◌, arith}
use Rattle.std.specs.Prelude.{replicate}
use Rattle.std.proofs.lemmas.List.{append-nil, drop_all, length-drop}
use Rattle.mem_base.specs.map.Forest.{IsMade}
use Rattle.mem_base.specs.access.AccessSteps.{reading}
use Rattle.generation.specs.Published.{Published}
use Rattle.access_base.proofs.MemoryLaws.{part_length}
use Rattle.access_plan.specs.HostPlans.{plan_by}
use Rattle.access_reach.specs.Asking.{outcome}
use Rattle.access_reach.specs.Reaching.{HasReached}
use Rattle.access_base.proofs.ChunkLaws.{at_end}
use Rattle.access_reach.proofs.ReachLaws.{AreBusLaws}
use Rattle.access_reach.proofs.ChunkLaws.{read_past}
use Rattle.access_reach.proofs.accesses.read_by.Goals as goal
use borrow.Rule.Slice.PartMut.{post_of}

-- the bytes after the first ones read as 0
zeros_after : (below n k : ℕ) (out filled : List ℕ) → length out ≡ n → below + k ≡ n
    → filled ≡ replicate (length (take (length out - below) (drop below out))) 0 → filled ++ post_of below (length out - below) out ≡ replicate k 0
zeros_after below n k out filled all sum is =
    let left : length out - below ≡ k = omega (arith, all, sum) in
    let many : length (take (length out - below) (drop below out)) ≡ k =
    part_length below k n (length out - below) out all (omega (arith, sum)) (omega (arith, all, sum)) in
    let none : post_of below (length out - below) out ≡ [] = drop_all (length out - below) (drop below out) (omega (arith, length-drop below out)) in
    ap (λ z. filled ++ z) none ∙ append-nil filled ∙ is ∙ ap (λ m. replicate m 0) many

pub returns-then-below-out : goal.returns-then-below-out
returns-then-below-out g c =
    let laws : AreBusLaws g.B.Bus.asks g.B.Bus.shows =
    record { begins = g.met.B.Bus.begins; goes_on = g.met.B.Bus.goes_on; stays = g.met.B.Bus.stays } in
    let n : ℕ = length c.args.out.now in
    let below : ℕ = c.reach-below.result in
    let out : List ℕ = c.read_below-result.new.out in
    let all : length out ≡ n = c.read_below-result.auto.out in
    let less : below < n = omega (arith, c.if-below-out.true, all) in
    let sum : below + (n - below) ≡ n = omega (arith, less) in
    let made : IsMade (g.B.Bus.shows c.args.bus.now).forest = subst (λ (z : Published). IsMade z.forest) c.generation.ensures c.knows_forest.ensures in
    let at : c.args.addr + below ≡ 2 ^ 64 = at_end c.args.addr below n less c.reach-below.ensures.all c.reach-below.ensures.past in
    let bytes : List ℕ = take below out ++ (c.fill.new.self ++ post_of below (length out - below) out) in
    subst (λ q. HasReached g.B.Bus.asks c.args.bus.now (plan_by g.B.Answering.host (g.B.Bus.shows c.args.bus.now).forest c.args.space c.args.addr (reading n))
    (outcome bytes q)
    c.read_below-result.new.bus) (sym c.joined.ensures)
    (read_past g.B.Bus.asks g.B.Bus.shows laws g.B.Answering.host c.args.bus.now c.read_below-result.new.bus c.args.space c.args.addr n below (n - below)
    (take below out) (c.fill.new.self ++ post_of below (length out - below) out) c.read_below-result.result made at sum (omega (arith, less))
    c.read_below-result.ensures (zeros_after below n (n - below) out c.fill.new.self all sum (c.fill.ensures.after (λ y e. cc))))
