use Rattle.access_plan.proofs.HostLaws.{plan_is_defined}
use Rattle.access_plan.proofs.laws.plan_is_defined.Goals as goal

pub returns : goal.returns
returns c = plan_is_defined
