use Rattle.map_laws.proofs.CallLaws.{IsOrderedForest-made}
use Rattle.map_laws.proofs.DepthLaws.{depth_is, weight_is, reaches_is}
use Rattle.mem_base.specs.map.Calls.{after_all, empty}
use Rattle.map_laws.proofs.depths_are_whole.Goals as goal

pub returns-clause-depth : goal.returns-clause-depth
returns-clause-depth c list r = depth_is (after_all empty list) (IsOrderedForest-made list) r

pub returns-clause-weight : goal.returns-clause-weight
returns-clause-weight c list r = weight_is (after_all empty list) (IsOrderedForest-made list) r

pub returns-clause-reach : goal.returns-clause-reach
returns-clause-reach c list r to = reaches_is (after_all empty list) (IsOrderedForest-made list) r to
