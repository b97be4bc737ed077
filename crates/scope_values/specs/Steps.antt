-- The steps from one view, or one table of slots, to another, as JSON.
use Rattle.std.specs.Prelude.{ℕ, List, ◌∷◌, codes}
use Rattle.serde_json.specs.Data.{Data, number, string, unsigned}
use Rattle.json_build.specs.Parts.{record_of}
use Rattle.mem_base.specs.declared.views.listening.RangeEvent.{RangeEvent}
use Rattle.mem_base.specs.declared.views.listening.RangeEvent.TheVariants.{Delete, Add, Keep, LogStart, LogStop}
use Rattle.mem_base.specs.script.Named.{Names}
use Rattle.mem_base.specs.script.Spelling.{Text}
use Rattle.view_slots.specs.Texts.{range_of}
use Rattle.scope_values.specs.Ranges.{labelled_fields, range_fields}

-- what comes of a range: it goes, it comes, it stays, or its logging mask alone becomes another
abbrev pub step_word : RangeEvent → Text
step_word (Delete r) = codes "goes"
step_word (Add r) = codes "comes"
step_word (Keep r) = codes "stays"
step_word (LogStart r from to) = codes "log"
step_word (LogStop r from to) = codes "log"

-- a step between views whose leaves are told by labels
abbrev pub change_fields : List Text → RangeEvent → List (Text × Data)
change_fields labels step = (codes "step", string (step_word step)) ∷ labelled_fields labels (range_of step)

abbrev pub change_data : List Text → RangeEvent → Data
change_data labels step = record_of (change_fields labels step)

-- a step between tables, with the number of its slot
abbrev pub slot_fields : ℕ → Names → RangeEvent → List (Text × Data)
slot_fields slot names step =
    (codes "step", string (step_word step)) ∷ (codes "slot", number (unsigned slot)) ∷ range_fields names (range_of step)

abbrev pub slot_data : ℕ → Names → RangeEvent → Data
slot_data slot names step = record_of (slot_fields slot names step)
