use Rattle.cell_laws.proofs.TurnHistories.{turns_reuse_released}
use Rattle.cell_laws.proofs.turns.turns_reuse_released.Goals as goal

pub returns : goal.returns
returns c = turns_reuse_released
