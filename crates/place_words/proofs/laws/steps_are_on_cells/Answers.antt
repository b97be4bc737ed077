use Rattle.place_words.proofs.CellLaws.{steps_on_cells}
use Rattle.place_words.proofs.laws.steps_are_on_cells.Goals as goal

pub returns : goal.returns
returns c = steps_on_cells
