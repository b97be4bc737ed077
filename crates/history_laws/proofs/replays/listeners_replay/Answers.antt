use Rattle.history_laws.proofs.ReplayedLaws.{listeners_replay}
use Rattle.history_laws.proofs.replays.listeners_replay.Goals as goal

pub returns : goal.returns
returns c = listeners_replay
