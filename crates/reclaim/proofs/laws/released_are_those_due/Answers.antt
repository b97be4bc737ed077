use Rattle.reclaim.proofs.ReleasedLaws.{keeps_sight, answers_released}
use Rattle.reclaim.proofs.laws.released_are_those_due.Goals as goal

pub returns-clause-sight : goal.returns-clause-sight
returns-clause-sight c = keeps_sight

pub returns-clause-released : goal.returns-clause-released
returns-clause-released c = answers_released
