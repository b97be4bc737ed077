-- `diff` as JSON: of each space how its views in two scripts differ.
use Rattle.std.specs.Prelude.{◌≡◌, not, if◌then◌else◌, is_some, List, [], ◌∷◌, ◌++◌, Option, Some, None, codes, flat_map}
use Rattle.std.specs.List.{list_any}
use Rattle.serde_json.specs.Data.{Data, string}
use Rattle.json_build.specs.Parts.{list_of, name_of, record_of}
use Rattle.mem_base.specs.declared.map.ids.SpaceId.{SpaceId}
use Rattle.mem_base.specs.declared.views.listening.RangeEvent.{RangeEvent}
use Rattle.mem_base.specs.script.Spelling.{Text}
use Rattle.mem_base.specs.script.States.{State, space_named}
use Rattle.view_diff.specs.declared.Difference.{Difference}
use Rattle.scope_values.specs.Steps.{change_data}
use Rattle.scope_run.specs.Diffs.{Compares, is_kept}
use Rattle.scope_run.specs.Scripts.{TellsAll}
use Rattle.scope_json.specs.Texts.{answer_of}

-- a step, unless both views show its range alike
abbrev pub changes_of : List Text → RangeEvent → List Data
changes_of labels step = if is_kept step then [] else change_data labels step ∷ []

-- a space, where it is, and what changes in its view
abbrev pub space_fields : Text → Text → List Data → List (Text × Data)
space_fields name which changes = (codes "space", name_of name) ∷ (codes "in", string which) ∷ (codes "changes", list_of changes) ∷ []

abbrev pub space_data : Text → Text → List Data → Data
space_data name which changes = record_of (space_fields name which changes)

-- a space of both scripts whose views differ; nothing of one whose views are alike
abbrev pub difference_data : Text → Difference → List Data
difference_data name d =
    if list_any (λ step. not (is_kept step)) d.walk then space_data name (codes "both") (flat_map (changes_of d.labels.made) d.walk) ∷ [] else []

-- a space of one script alone
abbrev pub alone_data : Text → Text → List Data
alone_data name which = space_data name which [] ∷ []

-- a space of the first script by its name, and of the second, where that has one
abbrev pub TellsBetween : State → State → Text → Option SpaceId → Option SpaceId → List Data → Type 0
TellsBetween a b name None to items = items ≡ []
TellsBetween a b name (Some from) None items = items ≡ alone_data name (codes "first")
TellsBetween a b name (Some from) (Some to) items = (d : Difference) × Compares a b from to d × (items ≡ difference_data name d)

-- a space of the first script
abbrev pub TellsFirst : State → State → Text → List Data → Type 0
TellsFirst a b name items = TellsBetween a b name (space_named a name) (space_named b name) items

-- a space of the second script, where the first has none of its name
abbrev pub second_data : State → Text → List Data
second_data a name = if is_some (space_named a name) then [] else alone_data name (codes "second")

-- all spaces: those of the first script, each against its namesake in the second, and then those that the second has alone
abbrev pub TellsDiff : State → State → List Data → Type 0
TellsDiff a b items =
    (here : List Data) × (items ≡ here ++ flat_map (second_data a) b.names.spaces) × TellsAll (TellsFirst a b) a.names.spaces here

abbrev pub diff_fields : List Data → List (Text × Data)
diff_fields items = (codes "spaces", list_of items) ∷ []

abbrev pub diff_data : List Data → Data
diff_data items = answer_of (codes "diff") (diff_fields items)
