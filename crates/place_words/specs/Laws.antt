-- What steps on words, and more or fewer places, do to the cells of the regions.
use Rattle.std.specs.Prelude.{◌≡◌, ℕ, ◌+◌, ◌<◌, Bool, List, [], ◌∷◌, ◌++◌, length, map, filter, replicate, slice_index, Some}
use Rattle.mem_base.specs.declared.map.ids.RegionId.{RegionId}
use Rattle.mem_base.specs.declared.access.cells.Place.{Place}
use Rattle.mem_base.specs.declared.access.cells.WordStep.{WordStep}
use Rattle.mem_base.specs.lists.Every.{EveryPair, HasElement, Every}
use Rattle.mem_base.specs.access.PlacesByRegion.{place_in}
use Rattle.mem_base.specs.access.Cells.{cells_in, words_after, blocks_after}
use Rattle.mem_base.specs.access.EditionPlaces.{ArePlacesApart}
use Rattle.mem_base.specs.machine.World.{block_for}
use Rattle.mem_base.specs.access.PlaceCells.{blocks_at}
use Rattle.place_words.specs.Blocks.{AreWithin, cleared}

-- a word of the place of a region is the region's cell, and a step on it is a step on that cell alone
abbrev pub StepsAreOnCells : Type 0
StepsAreOnCells = (ws : List ℕ) (places : List Place) (region : RegionId) (p : Place) (word : ℕ) (step : WordStep)
    → EveryPair ArePlacesApart places → place_in places region ≡ Some p → word < p.words
    → (slice_index (cells_in (blocks_at ws places) region) word ≡ slice_index ws (p.start + word))
    × (blocks_at (words_after ws (p.start + word) step) places ≡ blocks_after (blocks_at ws places) region word step)

-- a place more, whose words are cleared: its cells are new, and the others stay
abbrev pub NewPlacesAreCleared : Type 0
NewPlacesAreCleared = (ws : List ℕ) (before after : List Place) (p : Place)
    → AreWithin (length ws) ((before ++ p ∷ []) ++ after) → EveryPair ArePlacesApart ((before ++ p ∷ []) ++ after)
    → map (block_for (blocks_at ws (before ++ after))) ((before ++ p ∷ []) ++ after) ≡ blocks_at (cleared ws p) ((before ++ p ∷ []) ++ after)

-- the same places or some of them: their cells stay
abbrev pub PlacesKeepCells : Type 0
PlacesKeepCells = (ws : List ℕ) (places kept : List Place) → EveryPair ArePlacesApart places → Every (HasElement places) kept
    → map (block_for (blocks_at ws places)) kept ≡ blocks_at ws kept

-- so where some of the first ones go
abbrev pub FewerPlacesKeepCells : Type 0
FewerPlacesKeepCells = (ws : List ℕ) (stays : Place → Bool) (places after : List Place) → EveryPair ArePlacesApart (places ++ after)
    → map (block_for (blocks_at ws (places ++ after))) (filter stays places ++ after) ≡ blocks_at ws (filter stays places ++ after)

-- words that are all 0 are the cells of new places
abbrev pub FirstCellsAreZero : Type 0
FirstCellsAreZero = (count : ℕ) (places : List Place) → AreWithin count places
    → map (block_for []) places ≡ blocks_at (replicate count 0) places
