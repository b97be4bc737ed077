-- The cells of regions: which cell of its place an event touches, by which step, and what that leaves.
-- A cell is a word of a region, its data first, then its registers, then its marks. Each event on a cell is one
-- atomic step on one word. This project's own rule, in place of QEMU's RAM blocks and dirty bitmaps.
use Rattle.std.specs.Prelude.{ℕ, Bool, true, false, ◌==◌, ◌&&◌, if◌then◌else◌, List, [], ◌∷◌, Option, Some, None, slice_index, slice_set}
use Rattle.mem_base.specs.declared.map.ids.RegionId.{RegionId}
use Rattle.mem_base.specs.declared.access.cells.Place.{Place}
use Rattle.mem_base.specs.declared.access.cells.Cell.{Cell}
use Rattle.mem_base.specs.declared.access.cells.WordStep.{WordStep}
use Rattle.mem_base.specs.declared.access.cells.WordStep.TheVariants.{Or, Take}
use Rattle.mem_base.specs.declared.machine.events.Event.{Event}
use Rattle.mem_base.specs.declared.machine.events.Event.TheVariants as events
use Rattle.mem_base.specs.access.PlacesByRegion.{notifiers}
use Rattle.mem_base.specs.access.Words.{word_after}
use Rattle.mem_base.specs.access.Places.{mark_word, word_of_page, bit_of_page}

-- the cell of a region with a number
abbrev pub cell : RegionId → ℕ → Cell
cell region word = record { region = region; word = word }

-- the cell of a notifier
abbrev pub notifier_cell : ℕ → Cell
notifier_cell number = cell notifiers number

-- one and the same cell
abbrev pub is_same_cell : Cell → Cell → Bool
is_same_cell x y = (x.region.0 == y.region.0) && (x.word == y.word)

-- one atomic step on a word of a place, and whether the event tells the word before it
pub record Touch : Type 0 where
  pub word : ℕ
  pub step : WordStep
  pub tells : Bool

-- such a step, by its word, the step itself, and whether the word before it is told
abbrev pub touch : ℕ → WordStep → Bool → Touch
touch word step tells = record { word = word; step = step; tells = tells }

-- what an event does to the place of its region. A Mark sets the bit of a page, a Harvest takes a mark word, and a
-- Fill leaves 0 as a Take does. A Mark and a Fill tell nothing of the word before
abbrev pub touch_of : Place → Event → Option Touch
touch_of p (events.Word hand cell step) = Some (touch cell.word step true)
touch_of p (events.Mark pass region client page) = Some (touch (word_of_page p client page) (Or (bit_of_page page)) false)
touch_of p (events.Harvest region client index) = Some (touch (mark_word p client index) Take true)
touch_of p (events.Fill cell) = Some (touch cell.word Take false)
touch_of p _ = None

-- the region whose cell an event touches
abbrev pub region_of : Event → Option RegionId
region_of (events.Word hand cell step) = Some cell.region
region_of (events.Mark pass region client page) = Some region
region_of (events.Harvest region client index) = Some region
region_of (events.Fill cell) = Some cell.region
region_of _ = None

-- a list of words after a step on one of them
abbrev pub words_after : List ℕ → ℕ → WordStep → List ℕ
words_after words index step = slice_set words index (word_after step (slice_index words index))

-- the cells of one region
pub record Block : Type 0 where
  pub region : RegionId
  pub words : List ℕ

-- the region has cells
abbrev pub has_block : List Block → RegionId → Bool
has_block [] r = false
has_block (b ∷ bs) r = if b.region.0 == r.0 then true else has_block bs r

-- the cells of a region
abbrev pub cells_in : List Block → RegionId → List ℕ
cells_in [] r = []
cells_in (b ∷ bs) r = if b.region.0 == r.0 then b.words else cells_in bs r

-- all cells after a step on a cell of a region
abbrev pub blocks_after : List Block → RegionId → ℕ → WordStep → List Block
blocks_after [] r index step = []
blocks_after (b ∷ bs) r index step =
    if b.region.0 == r.0 then (record b { words = words_after b.words index step }) ∷ bs
    else b ∷ blocks_after bs r index step
