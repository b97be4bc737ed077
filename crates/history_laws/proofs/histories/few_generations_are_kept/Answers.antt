use Rattle.mem_base.specs.machine.World.{opening}
use Rattle.mem_base.specs.machine.History.{after_entries}
use Rattle.history_laws.proofs.OrderLaws.{order}
use Rattle.history_laws.proofs.HeldLaws.{keeps_held}
use Rattle.history_laws.proofs.histories.few_generations_are_kept.Goals as goal

pub returns : goal.returns
returns c = λ pool_words passes xs l. keeps_held (after_entries (opening pool_words passes) xs) (order pool_words passes xs l)
