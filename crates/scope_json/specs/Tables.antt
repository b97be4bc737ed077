-- `slots` as JSON: the memory slots of each space in each generation.
use Rattle.std.specs.Prelude.{◌≡◌, ◌==◌, ℕ, if◌then◌else◌, List, [], ◌∷◌, ◌++◌, length, map, Option, Some, None, codes}
use Rattle.serde_json.specs.Data.{Data, number, unsigned}
use Rattle.json_build.specs.Parts.{list_of, name_of, record_of}
use Rattle.mem_base.specs.declared.map.ids.SpaceId.{SpaceId}
use Rattle.mem_base.specs.declared.views.flat.FlatRange.{FlatRange}
use Rattle.mem_base.specs.declared.views.listening.RangeEvent.{RangeEvent}
use Rattle.mem_base.specs.script.Named.{Names, space_name}
use Rattle.mem_base.specs.script.Scripts.{Line}
use Rattle.mem_base.specs.script.Spelling.{Text}
use Rattle.mem_base.specs.script.States.{State, space_named}
use Rattle.mem_base.specs.views.Flattened.{view_of}
use Rattle.mem_base.specs.views.Replay.{ranges_after_all}
use Rattle.mem_base.specs.views.Walk.{walk}
use Rattle.view_slots.specs.Texts.{range_of}
use Rattle.script_map.specs.Left.{Shown, first_of, published_in}
use Rattle.scope_values.specs.Steps.{slot_data}
use Rattle.scope_run.specs.Scripts.{TellsAll, told_by}
use Rattle.scope_run.specs.Tables.{HasEdges, IsTable, slot_number}
use Rattle.scope_json.specs.Texts.{answer_of}

-- a step, with the number of its slot
abbrev pub step_data : List ℕ → Names → RangeEvent → Data
step_data edges names step = slot_data (slot_number edges (range_of step)) names step

-- a space, a generation, and the steps to its table
abbrev pub table_fields : List ℕ → Names → SpaceId → ℕ → List RangeEvent → List (Text × Data)
table_fields edges names space generation steps =
    (codes "space", name_of (space_name names space)) ∷ (codes "generation", number (unsigned generation))
    ∷ (codes "steps", list_of (map (step_data edges names) steps)) ∷ []

-- the table of a generation, as the steps to it; nothing where there is no step
abbrev pub table_data : List ℕ → Names → SpaceId → ℕ → List RangeEvent → List Data
table_data edges names space generation steps =
    if length steps == 0 then [] else record_of (table_fields edges names space generation steps) ∷ []

-- the tables of generations, from this one on: each is told by the steps to it from the one before, which replay
abbrev pub TellsTables : List ℕ → Names → SpaceId → List FlatRange → List Shown → List Data → Type 0
TellsTables edges names space old [] items = items ≡ []
TellsTables edges names space old (g ∷ gs) items =
    (new : List FlatRange) × (rest : List Data) × IsTable edges names (view_of g.forest space) new
    × (ranges_after_all (Some old) (walk old new) ≡ Some new)
    × (items ≡ table_data edges names space g.number (walk old new) ++ rest)
    × TellsTables edges names space new gs rest

-- a space in all generations, from an empty table on, with the same edges in all
abbrev pub TellsSlotsOf : Names → List Shown → Option SpaceId → List Data → Type 0
TellsSlotsOf names gs None items = items ≡ []
TellsSlotsOf names gs (Some space) items = (edges : List ℕ) × HasEdges edges space gs × TellsTables edges names space [] gs items

-- all spaces of a state in some generations
abbrev pub TellsSlotsIn : State → List Shown → List Data → Type 0
TellsSlotsIn s gs items = TellsAll (λ name here. TellsSlotsOf s.names gs (space_named s name) here) s.names.spaces items

-- all spaces that the script of a text makes, in the generations that it publishes
abbrev pub TellsSlots : Text → List Line → List Data → Type 0
TellsSlots script lines items = TellsSlotsIn (told_by script lines) (published_in (first_of lines) lines) items

abbrev pub slots_fields : List Data → List (Text × Data)
slots_fields items = (codes "tables", list_of items) ∷ []

abbrev pub slots_data : List Data → Data
slots_data items = answer_of (codes "slots") (slots_fields items)
