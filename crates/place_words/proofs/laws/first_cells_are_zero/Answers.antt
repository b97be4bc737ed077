use Rattle.place_words.proofs.CellLaws.{first_zero}
use Rattle.place_words.proofs.laws.first_cells_are_zero.Goals as goal

pub returns : goal.returns
returns c = first_zero
