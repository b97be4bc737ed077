use Rattle.history_laws.proofs.ReplayedLaws.{all_calls_replay}
use Rattle.history_laws.proofs.replays.all_calls_replay.Goals as goal

pub returns : goal.returns
returns c = all_calls_replay
