use Rattle.history_laws.proofs.DroppedLaws.{regions_are_dropped_once}
use Rattle.history_laws.proofs.releasing.regions_are_dropped_once.Goals as goal

pub returns : goal.returns
returns c = regions_are_dropped_once
