use Rattle.race_laws.proofs.OutsideLaws.{orders_fit}
use Rattle.race_laws.proofs.outside.orders_fit.Goals as goal

pub returns : goal.returns
returns c = orders_fit
