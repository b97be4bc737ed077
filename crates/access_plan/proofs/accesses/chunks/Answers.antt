use Rattle.std.proofs.Common.{◌≡◌, ℕ, ◌+◌, ◌-◌, List, ap, subst, arith}
use Rattle.std.specs.Prelude.{flat_map}
use Rattle.mem_base.specs.declared.map.forests.Forest.{Forest}
use Rattle.mem_base.specs.access.AccessSteps.{Transfer, part}
use Rattle.mem_base.specs.access.Trails.{chunks}
use Rattle.mem_base.specs.access.Plans.{Reached, reached}
use Rattle.access_plan.specs.HostPlans.{answerer_with_host, chunks_with_host}
use Rattle.access_plan.specs.Lists.{Adds, IsUnderway, moved}
use Rattle.access_plan.proofs.ListLaws.{underway_none, underway_then, all_done}
use Rattle.access_plan.proofs.ChunkLists.{chunk_in, chunk_then}
use Rattle.access_plan.proofs.accesses.chunks.Goals as goal

pub loop-done-init : goal.loop-done-init
loop-done-init c =
    let f : Forest = c.args.g.now.forest in
    let w = c.args.write in
    let s = c.args.space in
    let a : ℕ = c.args.addr in
    let n : ℕ = c.args.len in
    let t : Transfer = moved w c.args.bytes.now in
    let here : a ≡ a + 0 = omega arith in
    let left : n ≡ n - 0 = omega arith in (
      omega arith,
      subst (λ l. IsUnderway t c.args.list.now.items c.args.list.now.items (chunks_with_host f w s a n t) l 0 0)
          (λ i. flat_map (chunk_in f w s a t) (chunks f w s (here i) (left i)))
          (underway_none t c.args.list.now.items (chunks_with_host f w s a n t) 0),
    )

pub loop-done-preserved : goal.loop-done-preserved
loop-done-preserved c =
    let f : Forest = c.args.g.now.forest in
    let w = c.args.write in
    let s = c.args.space in
    let a : ℕ = c.args.addr in
    let n : ℕ = c.args.len in
    let t : Transfer = moved w c.args.bytes.now in
    let done : ℕ = c.loop-done.done in
    let leads = c.first_chunk-leads.result.0 in
    let count : ℕ = c.first_chunk-leads.result.1 in
    let less = c.loop-done-test.true in
    let most = c.first_chunk-leads.ensures.most in
    let later : List Reached = flat_map (chunk_in f w s a t) (chunks f w s (a + (done + count)) (n - (done + count))) in (
      omega (arith, most, less),
      underway_then t c.args.list.now.items c.loop-done.list.items c.target.new.list.items (chunks_with_host f w s a n t)
          (flat_map (chunk_in f w s a t) (chunks f w s (a + done) (n - done))) (reached (answerer_with_host f w leads) (part done count t)) later 0
          done (done + count)
          c.loop-done.invariant.1 (chunk_then f w s a t done n count leads less c.first_chunk-leads.ensures.target c.first_chunk-leads.ensures.len)
          c.in_ok-target.ensures,
    )

pub returns : goal.returns
returns c =
    let f : Forest = c.args.g.now.forest in
    let w = c.args.write in
    let s = c.args.space in
    let a : ℕ = c.args.addr in
    let n : ℕ = c.args.len in
    let t : Transfer = moved w c.args.bytes.now in
    let over = c.loop-done-test.false in
    let inside = c.loop-done.invariant.0 in
    let all : c.loop-done.done ≡ n = omega (arith, over, inside) in
    let none : n - c.loop-done.done ≡ 0 = omega (arith, all) in
    subst (λ m. Adds t c.args.list.now.items c.loop-done.list.items (chunks_with_host f w s a n t) 0 m) all
    (all_done t c.args.list.now.items c.loop-done.list.items (chunks_with_host f w s a n t)
    (flat_map (chunk_in f w s a t) (chunks f w s (a + c.loop-done.done) (n - c.loop-done.done))) 0 c.loop-done.done c.loop-done.invariant.1
    (ap (λ m. flat_map (chunk_in f w s a t) (chunks f w s (a + c.loop-done.done) m)) none))
