use Rattle.access_plan.proofs.HostLaws.{core_plan_is_defined}
use Rattle.access_plan.proofs.laws.core_plan_is_defined.Goals as goal

pub returns : goal.returns
returns c = core_plan_is_defined
