use Rattle.std.proofs.Common.{refl, subst, Some}
use Rattle.mem_base.specs.machine.Orders.{notified}
use Rattle.mem_base.specs.machine.Answers as machine
use Rattle.libvobrekan.specs.Answers.{done}
use Rattle.libvobrekan.specs.Asked.{Did}
use Rattle.libvobrekan.proofs.AskedLaws.{did, done_on_handle}
use Rattle.libvobrekan.proofs.writer.notified.Goals as goal

pub returns : goal.returns
returns c =
    let w = c.in-Some.machine.value in
    let v = c.notified-value.new.self in
    let k = notified c.args.number in
    let told = done c.notified-value.result 0 in
    done_on_handle c.args.handle.now.machine w v k told c.done.result c.put.new.self.machine c.in-Some.ensures.taken c.done.ensures c.put.ensures
    (subst (λ u. Did u k told (Some v)) c.deref_mut.ensures.value
    (did c.deref_mut.result.now v k
    (machine.notifier_answer c.notified-value.result) told refl c.notified-value.ensures.completed c.notified-value.ensures.legal))
