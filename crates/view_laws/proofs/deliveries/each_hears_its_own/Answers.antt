use Rattle.std.proofs.Common.{Some}
use Rattle.view_laws.proofs.Projections.{publish_tells}
use Rattle.view_laws.proofs.deliveries.each_hears_its_own.Goals as goal

pub returns : goal.returns
returns c = λ ls l old new once apart known. publish_tells l.listener ls (Some l) old new once apart known
