use Rattle.std.proofs.Common.{refl, subst, Some}
use Rattle.mem_base.specs.machine.Orders.{load}
use Rattle.libvobrekan.specs.Arguments.{region_at}
use Rattle.mem_base.specs.machine.Answers as machine
use Rattle.libvobrekan.specs.Answers.{plain_told}
use Rattle.libvobrekan.specs.Asked.{Did}
use Rattle.libvobrekan.proofs.AskedLaws.{did, done_on_handle}
use Rattle.libvobrekan.proofs.writer.vb_load.Goals as goal

pub returns : goal.returns
returns c =
    let w = c.in-Some.machine.value in
    let v = c.load_bytes-answer.new.self in
    let k = load (region_at c.args.region) c.args.offset c.args.bytes.now in
    let told = plain_told c.load_bytes-answer.result in
    done_on_handle c.args.handle.now.machine w v k told c.of_plain.result c.put.new.self.machine c.in-Some.ensures.taken c.of_plain.ensures c.put.ensures
    (subst (λ u. Did u k told (Some v)) c.deref_mut.ensures.value
    (did c.deref_mut.result.now v k
    (machine.plain_answer c.load_bytes-answer.result) told refl c.load_bytes-answer.ensures.completed c.load_bytes-answer.ensures.legal))
