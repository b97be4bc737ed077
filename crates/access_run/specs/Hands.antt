-- What a hand may be asked for: a step on a word of a place, by the rules of accesses.
use Rattle.std.specs.Prelude.{◌≡◌, ℕ, ◌+◌, ◌^◌, ◌<◌, ◌≤◌, Some}
use Rattle.mem_base.specs.map.PassIds.{PassId}
use Rattle.mem_base.specs.declared.access.cells.Place.{Place}
use Rattle.mem_base.specs.declared.access.cells.WordStep.{WordStep}
use Rattle.mem_base.specs.declared.access.cells.WordStep.TheVariants.{Load, Replace, AddOne, Or, Take}
use Rattle.mem_base.specs.declared.machine.events.Event.{Event}
use Rattle.mem_base.specs.declared.machine.events.Event.TheVariants as events
use Rattle.mem_base.specs.declared.machine.events.Hand.TheVariants as hands
use Rattle.mem_base.specs.access.PlacesByRegion.{place_in}
use Rattle.mem_base.specs.access.Cells.{cell}
use Rattle.generation.specs.Published.{Published}

-- the place is the one that the generation has of its region
abbrev pub IsPlaceOf : Published → Place → Type 0
IsPlaceOf g p = place_in g.places p.region ≡ Some p

-- a step of a read: it loads the word, counts or clears it
abbrev pub IsReadStep : WordStep → Type 0
IsReadStep Load = Unit {0}
IsReadStep AddOne = Unit {0}
IsReadStep Take = Unit {0}
IsReadStep _ = ⊥

-- a step of a write: it sets bits, or replaces 1 to 8 bytes, which lie in the word
abbrev pub IsWriteStep : WordStep → Type 0
IsWriteStep (Replace first bytes value) = (0 < bytes) × (first + bytes ≤ 8) × (value < 256 ^ bytes)
IsWriteStep (Or bits) = Unit {0}
IsWriteStep _ = ⊥

-- the events of a step and of a mark by a pass
abbrev pub word_event : PassId → Place → ℕ → WordStep → Event
word_event pass p word step = events.Word (hands.Pass pass) (cell p.region word) step
