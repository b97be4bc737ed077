-- What is said of the script of a text, and why a command has no answer.
use Rattle.std.specs.Prelude.{◌≡◌, List, [], ◌∷◌, ◌++◌, Option, Some, None, Ok, Err, ⊤}
use Rattle.mem_base.specs.script.Spelling.{Text}
use Rattle.mem_base.specs.script.Scripts.{Line, script_of}
use Rattle.mem_base.specs.script.States.{State, region_named, space_named}
use Rattle.script_map.specs.Left.{first_of, state_after}
use Rattle.script_memory.specs.Told.{told_of}
use Rattle.script_map.specs.declared.reading.MapStop.{MapStop}
use Rattle.script_map.specs.declared.reading.MapStop.TheVariants as stops
use Rattle.scope_run.specs.declared.answers.Fault.{Fault}
use Rattle.scope_run.specs.declared.answers.Fault.TheVariants as faults
use Rattle.scope_run.specs.declared.answers.Which.{Which}
use Rattle.scope_run.specs.declared.answers.Which.TheVariants.{First, Second}

-- the state that a script leaves
abbrev pub left_by : List Line → State
left_by lines = state_after (first_of lines) lines

-- the state that is told of a script: the same, with the regions that are read as memory told as RAM
abbrev pub told_by : Text → List Line → State
told_by text lines = (told_of text lines).state

-- why a text gives no map, as a fault
abbrev pub stopped_by : Which → MapStop → Fault
stopped_by which (stops.Bad bad) = faults.Script which bad
stopped_by which stops.Memory = faults.Memory

-- the text is a script, of whose commands this holds
abbrev pub OfScript : Text → (List Line → Type 0) → Type 0
OfScript text fact = (lines : List Line) × (script_of text ≡ Ok lines) × fact lines

-- no region has the name that was asked for
abbrev pub IsMissing : State → Option Text → Type 0
IsMissing s None = ⊥
IsMissing s (Some name) = region_named s name ≡ None

-- no space has the name that was asked for
abbrev pub IsNoSpace : State → Option Text → Type 0
IsNoSpace s None = ⊥
IsNoSpace s (Some name) = space_named s name ≡ None

-- a command on a map, and on a space and a region of it where it asks for them, has no answer: the map has no such name. Out of memory
-- says nothing
abbrev pub FailsIn : State → Option Text → Option Text → Fault → Type 0
FailsIn s space region faults.NoSpace = IsNoSpace s space
FailsIn s space region faults.NoRegion = IsMissing s region
FailsIn s space region faults.Memory = ⊤
FailsIn s space region _ = ⊥

-- a command on one script has no answer: the text is no script, and this is its first line at fault; or the map that it leaves gives none
abbrev pub FailsOn : Text → Option Text → Option Text → Fault → Type 0
FailsOn text space region (faults.Script First bad) = script_of text ≡ Err bad
FailsOn text space region faults.Memory = ⊤
FailsOn text space region fault = OfScript text (λ lines. FailsIn (told_by text lines) space region fault)

-- a command has no answer for its second text, which is no script
abbrev pub FailsOnSecond : Text → Fault → Type 0
FailsOnSecond text (faults.Script Second bad) = script_of text ≡ Err bad
FailsOnSecond text faults.Memory = ⊤
FailsOnSecond text _ = ⊥

-- a command on two scripts has no answer
abbrev pub FailsOnBoth : Text → Text → Fault → Type 0
FailsOnBoth first second (faults.Script First bad) = script_of first ≡ Err bad
FailsOnBoth first second fault = FailsOnSecond second fault

-- a text, or another list, of parts, one for each element of a list, of each of which this holds
abbrev pub TellsAll : {X E : Type 0} → (X → List E → Type 0) → List X → List E → Type 0
TellsAll tells [] text = text ≡ []
TellsAll {X} {E} tells (x ∷ xs) text = (here : List E) × (rest : List E) × (text ≡ here ++ rest) × tells x here × TellsAll tells xs rest
