use Rattle.place_words.proofs.CellLaws.{fewer_keep}
use Rattle.place_words.proofs.laws.fewer_places_keep_cells.Goals as goal

pub returns : goal.returns
returns c = fewer_keep
