use Rattle.vcpu_pass.proofs.CallLaws.{entered}
use Rattle.vcpu_pass.proofs.entering.enter_anew.Goals as goal

pub returns-clause-entered : goal.returns-clause-entered
returns-clause-entered c =
    entered c.args.pass.now c.leave_if_entered.new.pass c.enter.new.pass c.enter.ensures.events.0 c.enter.result c.leave_if_entered.ensures.left
    c.enter.ensures.events.1 c.enter.ensures.current c.enter.ensures.newest
