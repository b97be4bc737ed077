-- `slots`: the memory slots of each space in each generation.
use Rattle.std.specs.Prelude.{◌≡◌, ◌==◌, ℕ, if◌then◌else◌, List, [], ◌∷◌, ◌++◌, length, Option, Some, None, flat_map, position, unwrap_or}
use Rattle.mem_base.specs.declared.map.ids.SpaceId.{SpaceId}
use Rattle.mem_base.specs.declared.views.flat.FlatRange.{FlatRange}
use Rattle.mem_base.specs.declared.views.listening.RangeEvent.{RangeEvent}
use Rattle.mem_base.specs.lists.Every.{Every}
use Rattle.mem_base.specs.script.Named.{Names, space_name}
use Rattle.mem_base.specs.script.Scripts.{Line}
use Rattle.mem_base.specs.script.Spelling.{Text}
use Rattle.mem_base.specs.script.States.{State, space_named}
use Rattle.mem_base.specs.views.Flattened.{view_of}
use Rattle.mem_base.specs.views.Replay.{ranges_after_all}
use Rattle.mem_base.specs.views.View.{shown}
use Rattle.mem_base.specs.views.Walk.{walk}
use Rattle.view_slots.specs.Edges.{HasEnds}
use Rattle.view_slots.specs.Slots.{IsPiece, memory_alone}
use Rattle.view_slots.specs.Texts.{header_line, range_of, step_line}
use Rattle.script_map.specs.Left.{Shown, first_of, published_in}
use Rattle.scope_run.specs.Scripts.{TellsAll, told_by}

-- the number of a slot: that of the edge at which it begins, which no generation changes
abbrev pub slot_number : List ℕ → FlatRange → ℕ
slot_number edges r = unwrap_or (position (λ e. e == r.start) edges) 0

-- the line of a step, with the number of its slot
abbrev pub numbered_step : List ℕ → Names → RangeEvent → Text
numbered_step edges names step = step_line (slot_number edges (range_of step)) names step

-- the table of a generation, as the steps to it: slots SPACE gN, and a line for each step; nothing where there is no step
abbrev pub table_text : List ℕ → Names → SpaceId → ℕ → List RangeEvent → Text
table_text edges names space number steps =
    if length steps == 0 then [] else header_line (space_name names space) number ++ flat_map (numbered_step edges names) steps

-- the slots of a view: at each address they show what it shows there, where that is memory; each begins and ends at edges, and has none
-- within
pub record IsTable (edges : List ℕ) (names : Names) (view table : List FlatRange) : Type 0 where
  pub shows : (a : ℕ) → shown table a ≡ memory_alone names [] (shown view a)
  pub pieces : Every (IsPiece edges) table

-- the tables of generations, from this one on: each is told by the steps to it from the one before, which replay
abbrev pub TellsTables : List ℕ → Names → SpaceId → List FlatRange → List Shown → Text → Type 0
TellsTables edges names space old [] text = text ≡ []
TellsTables edges names space old (g ∷ gs) text =
    (new : List FlatRange) × (rest : Text) × IsTable edges names (view_of g.forest space) new
    × (ranges_after_all (Some old) (walk old new) ≡ Some new)
    × (text ≡ table_text edges names space g.number (walk old new) ++ rest)
    × TellsTables edges names space new gs rest

-- the edges are those of all views of a space
abbrev pub HasEdges : List ℕ → SpaceId → List Shown → Type 0
HasEdges edges space gs = Every (λ g. Every (HasEnds edges) (view_of g.forest space)) gs

-- a space in all generations, from an empty table on, with the same edges in all
abbrev pub TellsSlotsOf : Names → List Shown → Option SpaceId → Text → Type 0
TellsSlotsOf names gs None text = text ≡ []
TellsSlotsOf names gs (Some space) text = (edges : List ℕ) × HasEdges edges space gs × TellsTables edges names space [] gs text

-- all spaces of a state in some generations
abbrev pub TellsSlotsIn : State → List Shown → Text → Type 0
TellsSlotsIn s gs text = TellsAll (λ name here. TellsSlotsOf s.names gs (space_named s name) here) s.names.spaces text

-- all spaces that the script of a text makes, in the generations that it publishes
abbrev pub TellsSlots : Text → List Line → Text → Type 0
TellsSlots script lines text = TellsSlotsIn (told_by script lines) (published_in (first_of lines) lines) text
