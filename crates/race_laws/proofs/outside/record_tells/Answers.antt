use Rattle.race_laws.proofs.OutsideLaws.{record_tells}
use Rattle.race_laws.proofs.outside.record_tells.Goals as goal

pub returns : goal.returns
returns c = record_tells
