-- Notes on regions: the last generation that names each. This project's own rule, in place of the reference counts of QEMU's
-- core.
use Rattle.std.specs.Prelude.{ℕ, ◌==◌, if◌then◌else◌, Bool, true, not, nat_lt, List, filter, Option, Some, None}
use Rattle.std.specs.List.{list_any}
use Rattle.std.specs.declared.cmp.Ordering.{Ordering}
use Rattle.std.specs.Ordering.{nat_cmp}
use Rattle.mem_base.specs.declared.map.ids.RegionId.{RegionId}
use Rattle.mem_base.specs.lists.Sorting.{IsRising}
use Rattle.mem_base.specs.views.Naming.{names}
use Rattle.generation.specs.Published.{Published}
use Rattle.reclaim.specs.declared.notes.Note.{Note}

-- notes, and for how many more there is room
pub record NoteList : Type 0 where
  pub notes : List Note
  pub room : ℕ

abbrev pub note : RegionId → Option ℕ → Note
note region last = record { region = region; last = last }

-- how the note of one region stands to that of another, in the order of ids
abbrev pub by_region : RegionId → Note → Ordering
by_region region n = nat_cmp n.region.0 region.0

abbrev pub note_order : Note → Note → Ordering
note_order x y = by_region y.region x

-- notes by ascending id of their regions, one of each
abbrev pub AreNotes : List Note → Type 0
AreNotes notes = IsRising note_order notes

abbrev pub is_of : RegionId → Note → Bool
is_of region n = n.region.0 == region.0

abbrev pub is_noted : RegionId → List Note → Bool
is_noted region notes = list_any (is_of region) notes

-- the notes but that of a region
abbrev pub others : RegionId → List Note → List Note
others region notes = filter (λ n. not (is_of region n)) notes

-- no generation named it, or the last that did has a number below this one
abbrev pub is_before : ℕ → Option ℕ → Bool
is_before lowest None = true
is_before lowest (Some number) = nat_lt number lowest

abbrev pub is_due : ℕ → Note → Bool
is_due lowest n = is_before lowest n.last

-- the notes but that of a region, if one is named
abbrev pub others_if : Option RegionId → List Note → List Note
others_if None notes = notes
others_if (Some region) notes = others region notes

-- a note after a generation was seen: where it names the region, the last is this one
abbrev pub seen_in : Published → Note → Note
seen_in g n = if names g.forest n.region then note n.region (Some g.number) else n
