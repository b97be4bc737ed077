use Rattle.std.proofs.Common.{refl, subst, Some}
use Rattle.mem_base.specs.machine.Answers.{reap_answer}
use Rattle.mem_base.specs.machine.Orders.{reap}
use Rattle.libvobrekan.specs.Answers.{list_told}
use Rattle.libvobrekan.specs.Asked.{Asked}
use Rattle.libvobrekan.specs.Buffers.{HasPut, put_released}
use Rattle.libvobrekan.proofs.AskedLaws.{asked_list, items, on_handle, put_list, put_on_handle}
use Rattle.libvobrekan.proofs.writer.vb_reap.Goals as goal

pub returns-clause-asked : goal.returns-clause-asked
returns-clause-asked c =
    let w = c.in-Some.machine.value in
    let v = c.reap-released.new.self in
    let r = c.reap-released.result in
    let told = list_told (items r) in
    on_handle c.args.handle.now.machine w v reap told c.released_told.result c.put.new.self.machine c.in-Some.ensures.taken c.released_told.ensures.answer
    c.put.ensures
    (subst (λ u. Asked u reap told (Some v)) c.deref_mut.ensures.value
    (asked_list reap_answer c.deref_mut.result.now v reap r refl c.reap-released.ensures.completed c.reap-released.ensures.legal
    c.reap-released.ensures.unchanged c.reap-released.ensures.passes))

pub returns-clause-list : goal.returns-clause-list
returns-clause-list c =
    let w = c.in-Some.machine.value in
    let v = c.reap-released.new.self in
    let r = c.reap-released.result in
    let told = list_told (items r) in
    put_on_handle c.args.handle.now.machine w reap put_released told c.released_told.result c.args.out.now c.released_told.new.out
    c.in-Some.ensures.taken c.released_told.ensures.answer
    (subst (λ u. HasPut (Some u) reap put_released told c.args.out.now c.released_told.new.out) c.deref_mut.ensures.value
    (put_list reap_answer put_released c.deref_mut.result.now v reap r c.args.out.now c.released_told.new.out refl c.reap-released.ensures.completed
    c.released_told.ensures.out))
