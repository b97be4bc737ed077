use Rattle.plan_laws.proofs.CoreLaws.{plans_agree}
use Rattle.plan_laws.proofs.agreements.plans_agree.Goals as goal

pub returns : goal.returns
returns c = plans_agree
