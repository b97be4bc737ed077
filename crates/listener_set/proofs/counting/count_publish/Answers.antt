use Rattle.std.proofs.Common.{arith}
use Rattle.listener_set.proofs.CountLaws.{length_publish, some_value}
use Rattle.listener_set.proofs.counting.count_publish.Goals as goal

pub returns : goal.returns
returns c = some_value _ _ _ _ c.checked_add.ensures (
    let frame = c.in_ok-frame.ensures.1 in
    let told = c.in_ok-count_changes.ensures in
    let all = length_publish c.args.order.now c.args.changes.now in
    omega arith)
