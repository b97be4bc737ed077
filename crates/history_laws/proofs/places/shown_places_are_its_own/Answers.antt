use Rattle.history_laws.proofs.PlaceLaws.{shown_are_its_own}
use Rattle.history_laws.proofs.places.shown_places_are_its_own.Goals as goal

pub returns : goal.returns
returns c = shown_are_its_own
