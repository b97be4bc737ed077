-- A list of words seen as the cells of places.
-- This project's own rule: all backing is one pool of words, and after it stand the words of the notifiers.
use Rattle.std.specs.Prelude.{ℕ, List, map, take, drop}
use Rattle.mem_base.specs.declared.access.cells.Place.{Place}
use Rattle.mem_base.specs.access.Cells.{Block}

-- the words of a place
abbrev pub words_at : List ℕ → Place → List ℕ
words_at ws p = take p.words (drop p.start ws)

-- the words of a place, with its region
abbrev pub block_at : List ℕ → Place → Block
block_at ws p = record { region = p.region; words = words_at ws p }

-- the cells of the regions of these places
abbrev pub blocks_at : List ℕ → List Place → List Block
blocks_at ws places = map (block_at ws) places
