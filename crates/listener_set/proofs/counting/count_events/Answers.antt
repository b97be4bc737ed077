use Rattle.std.proofs.Common.{ap, length, arith}
use Rattle.listener_set.proofs.CountLaws.{length_calls, some_value}
use Rattle.listener_set.proofs.counting.count_events.Goals as goal

pub returns : goal.returns
returns c = some_value _ _ _ _ c.checked_add-2.ensures (
    let lost = ap length c.as_slice.ensures.value in
    let gained = ap length c.as_slice-2.ensures.value in
    let walk = ap length c.as_slice-3.ensures in
    let both = c.in_ok-switches.ensures.1 in
    let all = length_calls c.args.change.now in
    omega arith)
