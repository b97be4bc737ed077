use Rattle.std.proofs.Common.{◌+◌, ◌∙◌, ap, drop, flat_map, length, length-append, arith}
use Rattle.mem_base.specs.views.Listening.{deliveries_of}
use Rattle.listener_set.proofs.SwitchingLaws.{changes_cut}
use Rattle.listener_set.proofs.counting.count_changes.Goals as goal

pub loop-change-preserved : goal.loop-change-preserved
loop-change-preserved c =
    let told = deliveries_of c.args.order.now c.change-item.result in
    let rest = flat_map (deliveries_of c.args.order.now) (drop (c.loop-change.change-index + 1) c.args.changes.now) in
    let cut = ap length (changes_cut c.args.order.now c.args.changes.now c.loop-change.change-index c.change-item.result c.loop-change-test.true
    c.change-item.is)
    ∙ length-append told rest in
    let one = c.in_ok-count_change.ensures in
    let sum = c.in_ok-count.ensures.1 in
    let before = c.loop-change.invariant in
    omega arith
