use Rattle.mem_base.specs.map.Calls.{after_all, empty}
use Rattle.map_laws.proofs.CallLaws.{IsOrderedForest-made}
use Rattle.map_laws.proofs.PathLaws.{Finds-found_at}
use Rattle.map_laws.proofs.SearchLaws.{Finds-unique}
use Rattle.map_laws.proofs.search_is_the_manuals.Goals as goal

pub returns-clause-finds : goal.returns-clause-finds
returns-clause-finds c = λ list s r a e. Finds-found_at (after_all empty list) s r a (IsOrderedForest-made list) e

pub returns-clause-one : goal.returns-clause-one
returns-clause-one c = λ f r a x y h k. Finds-unique h k
