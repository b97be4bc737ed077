use Rattle.std.proofs.Common.{subst, w32, Some}
use Rattle.std.proofs.lemmas.Int.{to_z-of_z}
use Rattle.mem_base.specs.declared.map.calls.Config.TheVariants as configs
use Rattle.mem_base.specs.machine.Orders.{configure}
use Rattle.libvobrekan.specs.Arguments.{listener_at, space_at}
use Rattle.libvobrekan.specs.Answers.{plain_told}
use Rattle.libvobrekan.specs.Asked.{Asked}
use Rattle.libvobrekan.proofs.AskedLaws.{asked_plain, on_handle}
use Rattle.libvobrekan.proofs.writer.vb_listen.Goals as goal

pub returns : goal.returns
returns c =
    let w = c.in-Some.machine.value in
    let v = c.listen-answer.new.self in
    let k = configure (configs.Listen (listener_at c.args.listener) (space_at c.args.space) c.args.priority) in
    let r = c.listen-answer.result in
    on_handle c.args.handle.now.machine w v k (plain_told r) c.of_plain.result c.put.new.self.machine c.in-Some.ensures.taken c.of_plain.ensures c.put.ensures
    (subst (λ u. Asked u k (plain_told r) (Some v)) c.deref_mut.ensures.value
    (asked_plain c.deref_mut.result.now v k r (rw (to_z-of_z w32 c.args.priority c.ranges.priority) at c.listen-answer.ensures.completed)
    (rw (to_z-of_z w32 c.args.priority c.ranges.priority) at c.listen-answer.ensures.legal) c.listen-answer.ensures.unchanged
    c.listen-answer.ensures.passes))
