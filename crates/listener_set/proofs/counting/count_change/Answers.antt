use Rattle.std.proofs.Common.{sym, ◌∙◌, ◌*◌}
use Rattle.listener_set.proofs.CountLaws.{length_change, some_value}
use Rattle.listener_set.proofs.counting.count_change.Goals as goal

pub returns : goal.returns
returns c = some_value _ _ _ _ c.checked_mul.ensures
    ((λ i. c.count_hearers.ensures.value i * c.in_ok-events.ensures i) ∙ sym (length_change c.args.order.now c.args.change.now))
