use Rattle.std.proofs.Common.{subst, Some}
use Rattle.mem_base.specs.declared.map.calls.Config.TheVariants as configs
use Rattle.mem_base.specs.machine.Orders.{configure}
use Rattle.libvobrekan.specs.Answers.{call_told}
use Rattle.libvobrekan.specs.Asked.{Asked}
use Rattle.libvobrekan.proofs.AskedLaws.{asked_call, on_handle}
use Rattle.libvobrekan.proofs.changes.call.Goals as goal

pub returns : goal.returns
returns c =
    let w = c.in-Some.machine.value in
    let v = c.call-answer.new.self in
    let k = configure (configs.Call c.args.call.now) in
    let r = c.call-answer.result in
    on_handle c.args.handle.now.machine w v k (call_told r) c.of_call.result c.put.new.self.machine c.in-Some.ensures.taken c.of_call.ensures c.put.ensures
    (subst (λ u. Asked u k (call_told r) (Some v)) c.deref_mut.ensures.value
    (asked_call c.deref_mut.result.now v k r c.call-answer.ensures.completed c.call-answer.ensures.legal c.call-answer.ensures.unchanged
    c.call-answer.ensures.passes))
