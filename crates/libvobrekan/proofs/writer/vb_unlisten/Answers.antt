use Rattle.std.proofs.Common.{subst, Some}
use Rattle.mem_base.specs.declared.map.calls.Config.TheVariants as configs
use Rattle.mem_base.specs.machine.Orders.{configure}
use Rattle.libvobrekan.specs.Arguments.{listener_at}
use Rattle.libvobrekan.specs.Answers.{plain_told}
use Rattle.libvobrekan.specs.Asked.{Asked}
use Rattle.libvobrekan.proofs.AskedLaws.{asked_plain, on_handle}
use Rattle.libvobrekan.proofs.writer.vb_unlisten.Goals as goal

pub returns : goal.returns
returns c =
    let w = c.in-Some.machine.value in
    let v = c.unlisten-answer.new.self in
    let k = configure (configs.Unlisten (listener_at c.args.listener)) in
    let r = c.unlisten-answer.result in
    on_handle c.args.handle.now.machine w v k (plain_told r) c.of_plain.result c.put.new.self.machine c.in-Some.ensures.taken c.of_plain.ensures c.put.ensures
    (subst (λ u. Asked u k (plain_told r) (Some v)) c.deref_mut.ensures.value
    (asked_plain c.deref_mut.result.now v k r c.unlisten-answer.ensures.completed c.unlisten-answer.ensures.legal c.unlisten-answer.ensures.unchanged
    c.unlisten-answer.ensures.passes))
