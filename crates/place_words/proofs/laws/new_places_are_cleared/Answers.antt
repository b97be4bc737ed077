use Rattle.place_words.proofs.CellLaws.{new_cleared}
use Rattle.place_words.proofs.laws.new_places_are_cleared.Goals as goal

pub returns : goal.returns
returns c = new_cleared
