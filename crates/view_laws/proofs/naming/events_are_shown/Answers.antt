use Rattle.view_laws.proofs.ShownEvents.{events_shown}
use Rattle.view_laws.proofs.naming.events_are_shown.Goals as goal

pub returns : goal.returns
returns c = events_shown
