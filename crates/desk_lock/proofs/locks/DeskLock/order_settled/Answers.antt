use Rattle.std.proofs.Common.{arith, ◌+◌, ◌-◌, sym, ◌∙◌}
use Rattle.desk_lock.proofs.SettledLaws.{held_again}
use Rattle.desk_lock.proofs.locks.DeskLock.order_settled.Goals as goal

pub loop-left-preserved : goal.loop-left-preserved
loop-left-preserved g c =
    let inv = c.loop-left.invariant in (
      inv.0 + 1,
      omega (arith, inv.1, c.loop-left-test.true),
      held_again inv.0 c.args.clerk.now c.loop-left.clerk c.order.new.clerk c.args.order.now c.in_ok-receipt.receipt inv.2
          (sym c.was_held.ensures ∙ c.if-not-was_held.false) c.in_ok-receipt.ensures.clerk,
    )
