use Rattle.history_laws.proofs.ReplayedLaws.{later_calls_replay}
use Rattle.history_laws.proofs.replays.later_calls_replay.Goals as goal

pub returns : goal.returns
returns c = later_calls_replay
