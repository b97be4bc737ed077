use Rattle.race_laws.proofs.OutsideLaws.{faults_write}
use Rattle.race_laws.proofs.outside.faults_write.Goals as goal

pub returns : goal.returns
returns c = faults_write
