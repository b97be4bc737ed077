use Rattle.place_words.proofs.CellLaws.{places_keep}
use Rattle.place_words.proofs.laws.places_keep_cells.Goals as goal

pub returns : goal.returns
returns c = places_keep
