use Rattle.world_laws.proofs.Keeping.{held_places_stand}
use Rattle.world_laws.proofs.places.held_places_stand.Goals as goal

pub returns : goal.returns
returns c = held_places_stand
