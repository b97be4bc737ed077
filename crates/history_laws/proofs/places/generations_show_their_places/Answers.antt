use Rattle.history_laws.proofs.ShownLaws.{generations_show_places}
use Rattle.history_laws.proofs.places.generations_show_their_places.Goals as goal

pub returns : goal.returns
returns c = generations_show_places
