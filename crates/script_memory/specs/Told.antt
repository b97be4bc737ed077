-- The state that is told where some regions are read as memory: that of the run, in which their kind is RAM. All else stays. A map in which
-- they are RAM would show the same (`Alike`), but that global logging marks memory, and these have no marks.
use Rattle.std.specs.Prelude.{◌≡◌, ℕ, ◌+◌, ◌==◌, if◌then◌else◌, List, [], ◌∷◌, ◌++◌, Ok, Some}
use Rattle.std.specs.List.{list_any, slice_get}
use Rattle.mem_base.specs.declared.map.ids.RegionId.{RegionId}
use Rattle.mem_base.specs.declared.map.kinds.Kind.{Kind}
use Rattle.mem_base.specs.declared.map.kinds.Kind.TheVariants.{Ram}
use Rattle.mem_base.specs.script.Named.{Names, name_at}
use Rattle.mem_base.specs.script.Scripts.{Line, script_of}
use Rattle.mem_base.specs.script.Spelling.{Text}
use Rattle.mem_base.specs.script.States.{State}
use Rattle.script_map.specs.Left.{first_of, refused_in, state_after}
use Rattle.script_names.specs.Tables.{AllNames, table}
use Rattle.script_memory.specs.Regions.{memory_of}

-- the kind as which the region with a number is told
abbrev pub told_kind : List RegionId → ℕ → Kind → Kind
told_kind memory n kind = if list_any (λ r. r.0 == n) memory then Ram else kind

-- and those with the numbers from `n` on
abbrev pub told_kinds : List RegionId → ℕ → List Kind → List Kind
told_kinds memory n [] = []
told_kinds memory n (kind ∷ kinds) = told_kind memory n kind ∷ told_kinds memory (n + 1) kinds

-- the names by which lines are told; listeners and watchers are in none
abbrev pub told_names : List RegionId → Names → Names
told_names memory names = record {
  regions = names.regions;
  kinds = told_kinds memory 0 names.kinds;
  spaces = names.spaces;
  listeners = [];
  notifiers = [];
}

-- the state that is told, and the regions that are read as memory
pub record Told : Type 0 where
  pub state : State
  pub memory : List RegionId

abbrev pub told_in : List RegionId → State → Told
told_in memory s = record { state = record s { names = told_names memory s.names }; memory = memory }

-- what is told of a script, by its text and its commands
abbrev pub told_of : Text → List Line → Told
told_of text lines = told_in (memory_of text (refused_in (first_of lines) lines) lines) (state_after (first_of lines) lines)

-- this is told of the script of a text
abbrev pub IsToldByText : Text → Told → Type 0
IsToldByText text told = (lines : List Line) × (script_of text ≡ Ok lines) × (told ≡ told_of text lines)

-- before a name is added
abbrev pub without_names : AllNames
without_names = record { regions = table [] []; kinds = []; spaces = table [] []; listeners = table [] []; notifiers = table [] [] }

-- one region more was added to names that are told, with the name and the kind that the region with this number has
pub record AddsRegion (memory : List RegionId) (names old new : AllNames) (number : ℕ) : Type 0 where
  pub kind : Kind
  pub known : slice_get names.kinds number ≡ Some kind
  pub regions : new.regions.made ≡ old.regions.made ++ name_at names.regions.made number ∷ []
  pub kinds : new.kinds ≡ old.kinds ++ told_kind memory number kind ∷ []
  pub others : new ≡ record old { regions = new.regions; kinds = new.kinds }
