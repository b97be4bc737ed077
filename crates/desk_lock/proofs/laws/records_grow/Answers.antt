use Rattle.desk_lock.proofs.StayLaws.{records_grow}
use Rattle.desk_lock.proofs.laws.records_grow.Goals as goal

pub returns : goal.returns
returns c = records_grow
