use Rattle.std.proofs.Common.{◌≡◌, ◌+◌, take, slice_set, sym, ap, ◌∙◌, arith}
use Rattle.libvobrekan.specs.Buffers.{put_each}
use Rattle.libvobrekan.specs.Plans.{reach_told}
use Rattle.libvobrekan.proofs.BufferLaws.{put_more, put_all, some_there}
use Rattle.libvobrekan.proofs.plans.put_reached.Goals.{in-Some, in_default}
use Rattle.libvobrekan.proofs.plans.put_reached.Goals as goal

pub loop-i-preserved : goal.loop-i-preserved
loop-i-preserved c =
    let list = c.args.list.now in
    let i = c.loop-i.i in
    let less = c.loop-i-test.true in
    let count = c.min-count.ensures in
    let same = c.loop-i.auto.out in
    elim c.match-told_at.branch as (λ _. c.match-told_at.out ≡ put_each reach_told (take (i + 1) list) c.args.out.now) [
      | in-Some w ↦ w.out-is ∙ ap (λ l. slice_set l i w.in-Some.numbers) c.loop-i.invariant
          ∙ put_more reach_told list c.args.out.now i w.in-Some.numbers (sym c.told_at.ensures ∙ w.in-Some.is) (omega (arith, less, count))
      | in_default w ↦ absurd (some_there reach_told list i (omega (arith, less, count)) (sym c.told_at.ensures ∙ w.in_default.is))
    ]

pub returns : goal.returns
returns c =
    let over = c.loop-i-test.false in
    let end = c.loop-i.auto.i-end in
    let count = c.min-count.ensures in
    c.loop-i.invariant ∙ put_all reach_told c.args.list.now c.args.out.now c.loop-i.i (omega (arith, over, end, count))
