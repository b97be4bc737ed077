use Rattle.plan_laws.proofs.CoreLaws.{one_chunk_agrees}
use Rattle.plan_laws.proofs.agreements.one_chunk_agrees.Goals as goal

pub returns : goal.returns
returns c = one_chunk_agrees
