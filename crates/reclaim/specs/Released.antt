-- A ledger that has seen each generation, and what it answers: the regions that a reap releases.
use Rattle.std.specs.Prelude.{◌≡◌, ℕ, ◌+◌, ◌-◌, ◌≤◌, if◌then◌else◌, true, List, [], ◌∷◌, length, map, filter, take, Option, Some, None}
use Rattle.mem_base.specs.declared.map.ids.RegionId.{RegionId}
use Rattle.mem_base.specs.declared.map.forests.Forest.{Forest}
use Rattle.mem_base.specs.lists.Every.{Every}
use Rattle.mem_base.specs.lists.Sorting.{put_by}
use Rattle.mem_base.specs.views.Naming.{names}
use Rattle.mem_base.specs.machine.Generations.{Generations, least_lowest}
use Rattle.mem_base.specs.machine.Reaps.{Writer, released}
use Rattle.generation.specs.Published.{Published}
use Rattle.reclaim.specs.declared.notes.Note.{Note}
use Rattle.reclaim.specs.Notes.{note, note_order, is_noted, is_due, others, others_if, seen_in}
use Rattle.reclaim.specs.Ledgers.{noted_last}

-- of all forests that were published, the newest first, the number of the last that names a region; the oldest has number 0
abbrev pub last_naming : List Forest → RegionId → Option ℕ
last_naming [] region = None
last_naming (f ∷ fs) region = if names f region then Some (length fs) else last_naming fs region

-- the notes tell the last of these forests that names each region
abbrev pub TellLast : List Forest → List Note → Type 0
TellLast fs notes = Every (λ n. n.last ≡ last_naming fs n.region) notes

-- a ledger with these notes has seen each of these forests
pub record HasSeen (fs : List Forest) (present dropped : List Note) : Type 0 where
  pub there : TellLast fs present
  pub gone : TellLast fs dropped

-- Whatever is done with a ledger, it has seen all forests that were published: it has at first, before any is; after a region was
-- made that none of them names; after the next one was seen; after a region was dropped; and after one was released
pub record KeepsSight : Type 0 where
  pub first : HasSeen [] [] []
  pub made : (fs : List Forest) (present dropped : List Note) (region : RegionId) → HasSeen fs present dropped → last_naming fs region ≡ None
      → HasSeen fs (put_by note_order (note region None) present) dropped
  pub seen : (fs : List Forest) (present dropped : List Note) (g : Published) → HasSeen fs present dropped → g.number ≡ length fs
      → HasSeen (g.forest ∷ fs) (map (seen_in g) present) (map (seen_in g) dropped)
  pub drops : (fs : List Forest) (present dropped : List Note) (region : RegionId) → HasSeen fs present dropped → is_noted region present ≡ true
      → HasSeen fs (others region present) (put_by note_order (note region (noted_last region present)) dropped)
  pub releases : (fs : List Forest) (present dropped : List Note) (region : Option RegionId) → HasSeen fs present dropped
      → HasSeen fs present (others_if region dropped)

-- these are all forests that were published, and the generations that are kept are the newest of them, the held ones among them
pub record ArePublished (fs : List Forest) (g : Generations) : Type 0 where
  pub count : length fs ≡ g.current + 1
  pub kept : map (λ x. x.forest) g.kept ≡ take (length g.kept) fs
  pub held : g.current + 1 - least_lowest g.current g.passes ≤ length g.kept

-- the dropped regions that are due from the least number that is held on, in a ledger that has seen all forests, are those
-- that a reap releases
abbrev pub AnswersReleased : Type 0
AnswersReleased = (fs : List Forest) (w : Writer) (dropped : List Note) → ArePublished fs w.generations → TellLast fs dropped
    → map (λ n. n.region) dropped ≡ w.desk.dropped
    → map (λ n. n.region) (filter (is_due (least_lowest w.generations.current w.generations.passes)) dropped) ≡ released w
