use Rattle.std.proofs.Common.{◌≡◌, subst}
use Rattle.mem_base.specs.access.AccessSteps.{writing}
use Rattle.libvobrekan.specs.Plans.{IsTold, lists_of}
use Rattle.libvobrekan.proofs.PlanLaws.{has_plan}
use Rattle.libvobrekan.proofs.plans.write_in.Goals as goal

pub returns : goal.returns
returns c =
    let number : c.number.result ≡ c.args.g.now.number = c.number.ensures.value in
    has_plan c.args.g.now.forest c.args.g.now.number c.args.core c.args.space c.args.addr (writing c.args.bytes.now) c.args.out.now c.told.result c.told.new.out
    c.list_write-list.result c.list_write-list.ensures
    (subst (λ n. IsTold (lists_of c.list_write-list.result) n c.args.out.now c.told.result c.told.new.out) number c.told.ensures)
