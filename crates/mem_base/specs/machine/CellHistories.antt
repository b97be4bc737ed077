-- What the cells of regions hold in a history of the pure machine: what the last step on each left, whose words a place has, and
-- what becomes of a mark.
-- This project's own, in place of QEMU's RAM blocks and dirty bitmaps: a cell is 0 when its region is made; a word of the pool
-- comes to another region only after a reap released the one that had it; a mark stands until a harvest takes its word.
use Rattle.std.specs.Prelude.{◌≡◌, ◌⊎◌, ℕ, ◌%◌, ◌<◌, ◌≤◌, Bool, true, false, ◌==◌, ◌&&◌, if◌then◌else◌, List, [], ◌∷◌, slice_index, Option, Some, None}
use Rattle.mem_base.specs.declared.map.ids.RegionId.{RegionId}
use Rattle.mem_base.specs.declared.map.kinds.Client.{Client}
use Rattle.mem_base.specs.declared.access.cells.Place.{Place}
use Rattle.mem_base.specs.declared.access.cells.WordStep.{WordStep}
use Rattle.mem_base.specs.declared.machine.events.Event.{Event}
use Rattle.mem_base.specs.declared.machine.events.Event.TheVariants as events
use Rattle.mem_base.specs.map.Limits.{pages_per_word}
use Rattle.mem_base.specs.access.Words.{word_after}
use Rattle.mem_base.specs.access.Marks.{is_marked}
use Rattle.mem_base.specs.access.Places.{past, mark_word, word_of_page}
use Rattle.mem_base.specs.access.Cells.{Touch, region_of, cells_in}
use Rattle.mem_base.specs.machine.Reaps.{Writer, released, is_among}
use Rattle.mem_base.specs.machine.World.{World, touch_at, number_in}
use Rattle.mem_base.specs.machine.History.{PureEntry, after_entry}

-- What a cell holds

-- the word of a region with this number
abbrev pub cell_value : World → RegionId → ℕ → ℕ
cell_value w r i = slice_index (cells_in w.blocks r) i

-- the step that a touch of a region makes on a cell, if any
abbrev pub step_by : RegionId → ℕ → Option RegionId → Option Touch → Option WordStep
step_by r i (Some s) (Some t) = if (s.0 == r.0) && (t.word == i) then Some t.step else None
step_by r i (Some s) None = None
step_by r i None t = None

-- the step that an event makes on a cell, if any
abbrev pub step_on : World → Event → RegionId → ℕ → Option WordStep
step_on w e r i = step_by r i (region_of e) (touch_at w e (region_of e))

-- what a step leaves of the value before it
abbrev pub stepped : Option WordStep → ℕ → ℕ
stepped None n = n
stepped (Some step) n = word_after step n

-- what the steps that these entries make on a cell leave of a value, one after another
abbrev pub left_on : RegionId → ℕ → ℕ → World → List PureEntry → ℕ
left_on r i n w [] = n
left_on r i n w (x ∷ xs) = left_on r i (stepped (step_on w x.event r i) n) (after_entry w x) xs

-- Reuse of words

-- two places have a word in common
abbrev pub Meet : Place → Place → Type 0
Meet p q = (word : ℕ) × (p.start ≤ word) × (word < past p) × (q.start ≤ word) × (word < past q)

-- the event is a reap that releases the region
abbrev pub releases : Writer → Event → RegionId → Bool
releases h events.Reap r = is_among (released h) r
releases h e r = false

-- one of these entries is such a reap, from a world on
abbrev pub IsReleasedIn : World → List PureEntry → RegionId → Type 0
IsReleasedIn w [] r = ⊥
IsReleasedIn w (x ∷ xs) r = (releases w.writer x.event r ≡ true) ⊎ IsReleasedIn (after_entry w x) xs r

-- Marks

-- the bit of a page stands in its mark word
abbrev pub HasMark : World → Place → Client → ℕ → Type 0
HasMark w p client page = is_marked (cell_value w p.region (word_of_page p client page)) (page % pages_per_word) ≡ true

-- the event is a harvest that takes the mark word of this page
abbrev pub takes_mark : Place → Client → ℕ → Event → Bool
takes_mark p client page (events.Harvest region other index) =
    (region.0 == p.region.0) && (mark_word p other index == word_of_page p client page)
takes_mark p client page e = false

-- of an entry, by whether it takes the mark's word and whether it releases the region: the first tells the mark, after the
-- second nothing is said, and any other leaves it to the entries that follow
abbrev pub KeptBy : Bool → Bool → Type 0 → Type 0 → Type 0
KeptBy true released Told Later = Told
KeptBy false true Told Later = Unit {0}
KeptBy false false Told Later = Later

-- what becomes of a mark in the entries from a world on: the first harvest of its word tells it, or its region is released
-- before there is one, or it still stands
abbrev pub IsMarkKept : Place → Client → ℕ → World → List PureEntry → Type 0
IsMarkKept p client page w [] = HasMark w p client page
IsMarkKept p client page w (x ∷ xs) = KeptBy (takes_mark p client page x.event) (releases w.writer x.event p.region)
    (is_marked (number_in x.reply) (page % pages_per_word) ≡ true)
    (IsMarkKept p client page (after_entry w x) xs)
