use Rattle.history_laws.proofs.OwnLaws.{own_writers}
use Rattle.history_laws.proofs.numbers.own_entries_are_the_writers.Goals as goal

pub returns : goal.returns
returns c = own_writers
