use Rattle.map_laws.proofs.FoundLaws.{found_at-to_leaf}
use Rattle.map_laws.proofs.paths_end_at_leaves.Goals as goal

pub returns : goal.returns
returns c = found_at-to_leaf
