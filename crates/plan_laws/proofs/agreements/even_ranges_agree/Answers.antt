use Rattle.plan_laws.proofs.CoreLaws.{even_ranges_agree}
use Rattle.plan_laws.proofs.agreements.even_ranges_agree.Goals as goal

pub returns : goal.returns
returns c = even_ranges_agree
