-- Notes of the regions that searches pass. A note is a region passed, and the number of the note before it; so a path
-- is one number. That paths are kept so is this project's own.
use Rattle.std.specs.Prelude.{ℕ, zero, suc, List, [], ◌∷◌, ◌++◌, Option, Some, None}
use Rattle.std.specs.List.{slice_get}
use Rattle.mem_base.specs.declared.map.ids.RegionId.{RegionId}
use Rattle.mem_base.specs.declared.views.notes.Note.{Note}
use Rattle.mem_base.specs.map.Limits.{most_depth}

-- the note with a number: notes are numbered from 1, and 0 is the number of none
abbrev pub note_at : List Note → ℕ → Option Note
note_at notes zero = None
note_at notes (suc i) = slice_get notes i

-- the path to a note, by the path to any note before it: that path, and then the note's region
abbrev pub path_through : (ℕ → List RegionId) → Option Note → List RegionId
path_through to None = []
path_through to (Some n) = to n.before ++ n.region ∷ []

-- the path to the note with a number, of which no more than the last `most` regions are told
unfoldable pub last_of_path : List Note → ℕ → ℕ → List RegionId
last_of_path notes zero number = []
last_of_path notes (suc most) number = path_through (last_of_path notes most) (note_at notes number)

-- the path to the note with a number: no search passes more than 32 regions
abbrev pub path_to : List Note → ℕ → List RegionId
path_to notes number = last_of_path notes most_depth number
