use Rattle.view_laws.proofs.WalkLaws.{walk_replays}
use Rattle.view_laws.proofs.walks.a_walk_replays.Goals as goal

pub returns : goal.returns
returns c = walk_replays
