use Rattle.run_laws.proofs.KnowingLaws.{orders_are_known}
use Rattle.run_laws.proofs.TurnLaws.{turns_keep_names}
use Rattle.run_laws.proofs.lines.orders_are_known.Goals as goal

pub returns-clause-call : goal.returns-clause-call
returns-clause-call c = orders_are_known

pub returns-clause-turn : goal.returns-clause-turn
returns-clause-turn c = turns_keep_names
