use Rattle.view_laws.proofs.LiveRanges.{lives_agree}
use Rattle.view_laws.proofs.live_events.lives_agree.Goals as goal

pub returns : goal.returns
returns c = λ f s rs bytes k. lives_agree f s rs bytes k
