use Rattle.std.proofs.Common.{◌≡◌, ℕ, ◌+◌, ◌-◌, ◌++◌, ap, subst, ◌∙◌, arith}
use Rattle.mem_base.specs.declared.map.forests.Forest.{Forest}
use Rattle.mem_base.specs.access.AccessSteps.{Transfer, part}
use Rattle.access_plan.specs.HostPlans.{core_answerer_with_host, round_at, rounds_by, rounds_with_host}
use Rattle.access_plan.specs.Lists.{Adds, IsUnderway, moved}
use Rattle.access_plan.specs.Rounds.{AddsRound, IsRound}
use Rattle.access_plan.proofs.ListLaws.{underway_none, underway_then, all_done}
use Rattle.access_plan.proofs.RoundLaws.{rounds_then}
use Rattle.access_plan.proofs.rounds.rounds.Goals as goal

pub loop-done-init : goal.loop-done-init
loop-done-init c =
    let f : Forest = c.args.g.now.forest in
    let w = c.args.write in
    let s = c.args.space in
    let a : ℕ = c.args.addr in
    let n : ℕ = c.args.len in
    let t : Transfer = moved w c.args.bytes.now in
    let here : a ≡ a + 0 = omega arith in
    let left : n ≡ n - 0 = omega arith in (
      omega arith,
      subst (λ l. IsUnderway t c.args.list.now.items c.args.list.now.items (rounds_with_host f w s a n t) l 0 0)
          (λ i. rounds_by (core_answerer_with_host f w) f w s a t (here i) (left i) 0)
          (underway_none t c.args.list.now.items (rounds_with_host f w s a n t) 0),
    )

pub loop-done-preserved : goal.loop-done-preserved
loop-done-preserved c =
    let f : Forest = c.args.g.now.forest in
    let w = c.args.write in
    let s = c.args.space in
    let a : ℕ = c.args.addr in
    let n : ℕ = c.args.len in
    let t : Transfer = moved w c.args.bytes.now in
    let done : ℕ = c.loop-done.done in
    let count : ℕ = c.in-Some.count in
    let r : IsRound f w s (a + done) (n - done) t c.loop-done.list.items c.add_round.new.list.items done count =
    subst (λ o. AddsRound f w s (a + done) (n - done) t c.loop-done.list.items c.add_round.new.list.items done o) c.in-Some.is c.in_ok-count.ensures in
    let most = r.most in
    let less = c.loop-done-test.true in
    let here : a + done + count ≡ a + (done + count) = omega arith in
    let left : n - done - count ≡ n - (done + count) = omega arith in
    let skipped : a + done - a ≡ done = omega arith in
    let list : rounds_by (core_answerer_with_host f w) f w s a t (a + done) (n - done) 0
    ≡ round_at (core_answerer_with_host f w) f w s (a + done) (part done count t)
    ++ rounds_by (core_answerer_with_host f w) f w s a t (a + (done + count)) (n - (done + count)) 0 =
    rounds_then (core_answerer_with_host f w) f w s a t (a + done) (n - done) count r.taken_is r.some r.most
    ∙ (λ i. round_at (core_answerer_with_host f w) f w s (a + done) (part (skipped i) count t)
    ++ rounds_by (core_answerer_with_host f w) f w s a t (here i) (left i) 0) in (
      omega (arith, most, less),
      underway_then t c.args.list.now.items c.loop-done.list.items c.add_round.new.list.items (rounds_with_host f w s a n t)
          (rounds_by (core_answerer_with_host f w) f w s a t (a + done) (n - done) 0) (round_at (core_answerer_with_host f w) f w s (a + done) (part done count t))
          (rounds_by (core_answerer_with_host f w) f w s a t (a + (done + count)) (n - (done + count)) 0) 0 done (done + count) c.loop-done.invariant.1 list r.adds,
    )

pub returns : goal.returns
returns c =
    let f : Forest = c.args.g.now.forest in
    let w = c.args.write in
    let s = c.args.space in
    let a : ℕ = c.args.addr in
    let n : ℕ = c.args.len in
    let t : Transfer = moved w c.args.bytes.now in
    let over = c.loop-done-test.false in
    let inside = c.loop-done.invariant.0 in
    let all : c.loop-done.done ≡ n = omega (arith, over, inside) in
    let none : n - c.loop-done.done ≡ 0 = omega (arith, all) in
    subst (λ m. Adds t c.args.list.now.items c.loop-done.list.items (rounds_with_host f w s a n t) 0 m) all
    (all_done t c.args.list.now.items c.loop-done.list.items (rounds_with_host f w s a n t)
    (rounds_by (core_answerer_with_host f w) f w s a t (a + c.loop-done.done) (n - c.loop-done.done) 0) 0 c.loop-done.done c.loop-done.invariant.1
    (ap (λ m. rounds_by (core_answerer_with_host f w) f w s a t (a + c.loop-done.done) m 0) none))
