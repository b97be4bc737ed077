-- What a list of words is after events that touch it, and what these reply.
use Rattle.std.specs.Prelude.{◌≡◌, ℕ, ◌+◌, if◌then◌else◌, List, [], ◌∷◌, ◌++◌, Option, Some, None, option_map, slice_index}
use Rattle.std.specs.List.{fold}
use Rattle.mem_base.specs.declared.map.ids.RegionId.{RegionId}
use Rattle.mem_base.specs.declared.access.cells.Place.{Place}
use Rattle.mem_base.specs.declared.machine.events.Event.{Event}
use Rattle.mem_base.specs.access.PlacesByRegion.{place_in}
use Rattle.mem_base.specs.access.Cells.{Touch, touch, touch_of, region_of, words_after}

-- a touch of a word of the place that begins there, as one of a word of the whole list
abbrev pub from_start : ℕ → Touch → Touch
from_start start t = touch (start + t.word) t.step t.tells

-- what an event touches: nothing where its region has no place
abbrev pub touch_at : Option Place → Event → Option Touch
touch_at None e = None
touch_at (Some p) e = option_map (from_start p.start) (touch_of p e)

abbrev pub touch_by : List Place → Option RegionId → Event → Option Touch
touch_by places None e = None
touch_by places (Some region) e = touch_at (place_in places region) e

-- the words after a touch, and what it replies
abbrev pub words_with : List ℕ → Option Touch → List ℕ
words_with words None = words
words_with words (Some t) = words_after words t.word t.step

abbrev pub reply_with : List ℕ → Option Touch → ℕ
reply_with words None = 0
reply_with words (Some t) = if t.tells then slice_index words t.word else 0

-- the words, and all replies so far, after one event more
abbrev pub after_event : List Place → List ℕ × List ℕ → Event → List ℕ × List ℕ
after_event places s e =
    let t = touch_by places (region_of e) e in
    (words_with s.0 t, s.1 ++ reply_with s.0 t ∷ [])

-- these events leave the words so, and these are their replies, after any earlier ones
abbrev pub AreAfter : List Place → List ℕ → List Event → List ℕ → List ℕ → Type 0
AreAfter places before events replies now = (earlier : List ℕ) → fold (after_event places) (before, earlier) events ≡ (now, earlier ++ replies)
