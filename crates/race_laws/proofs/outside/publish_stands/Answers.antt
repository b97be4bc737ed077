use Rattle.race_laws.proofs.OutsideLaws.{publish_stands}
use Rattle.race_laws.proofs.outside.publish_stands.Goals as goal

pub returns : goal.returns
returns c = publish_stands
