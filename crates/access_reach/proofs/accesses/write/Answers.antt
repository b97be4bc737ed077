use Rattle.mem_base.specs.access.AccessSteps.{writing}
use Rattle.access_plan.specs.HostPlans.{plan_with_host}
use Rattle.access_reach.proofs.TakenLaws.{all_taken}
use Rattle.access_reach.proofs.accesses.write.Goals as goal

pub write_by-requires : goal.write_by-requires
write_by-requires g c = all_taken c.args.bus.now (plan_with_host (g.B.Bus.shows c.args.bus.now).forest c.args.space c.args.addr (writing c.args.bytes.now))
