use Rattle.view_laws.proofs.LiveMembers.{lists_live}
use Rattle.view_laws.proofs.live_events.lives_are_live.Goals as goal

pub returns : goal.returns
returns c = lists_live
