use Rattle.race_levels.proofs.StepLaws.{orders_are_written}
use Rattle.race_levels.proofs.step_laws.orders_are_written.Goals as goal

pub returns : goal.returns
returns c = orders_are_written
