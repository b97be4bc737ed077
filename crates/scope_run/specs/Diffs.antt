-- `diff`: how the views of two scripts differ.
use Rattle.std.specs.Prelude.{◌≡◌, Bool, true, false, not, if◌then◌else◌, is_some, List, [], ◌++◌, Option, Some, None, codes, flat_map}
use Rattle.std.specs.List.{list_any}
use Rattle.mem_base.specs.declared.map.ids.SpaceId.{SpaceId}
use Rattle.mem_base.specs.declared.views.listening.RangeEvent.{RangeEvent}
use Rattle.mem_base.specs.declared.views.listening.RangeEvent.TheVariants.{Keep}
use Rattle.mem_base.specs.script.RefusalLines.{line_feed}
use Rattle.mem_base.specs.script.Shows.{shown_forest}
use Rattle.mem_base.specs.script.Spelling.{Text}
use Rattle.mem_base.specs.script.States.{State, space_named}
use Rattle.mem_base.specs.views.Flattened.{view_of}
use Rattle.mem_base.specs.views.Replay.{ranges_after_all}
use Rattle.mem_base.specs.views.Walk.{walk}
use Rattle.view_diff.specs.Lines.{step_text}
use Rattle.view_diff.specs.Numbers.{Numbers, Renumbered}
use Rattle.view_diff.specs.declared.Difference.{Difference}
use Rattle.scope_run.specs.Scripts.{TellsAll}

-- a step of a range that both views show alike
abbrev pub is_kept : RangeEvent → Bool
is_kept (Keep range) = true
is_kept _ = false

-- the line of a step, unless both views show its range alike
abbrev pub change_text : List Text → RangeEvent → Text
change_text labels step = if is_kept step then [] else step_text labels step

-- space NAME differs, and a line for each range that one view shows and the other does not; nothing where there is none
abbrev pub difference_text : Text → Difference → Text
difference_text name d =
    if list_any (λ step. not (is_kept step)) d.walk
    then (codes "space " ++ name) ++ (codes " differs" ++ (line_feed ++ flat_map (change_text d.labels.made) d.walk)) else []

-- how the view of a space of one script differs from that of a space of another, by the names and kinds of what they show
-- (`Renumbered`): the steps from the one to the other, which replay
pub record Compares (a b : State) (from to : SpaceId) (d : Difference) : Type 0 where
  pub labels : Numbers d.labels
  pub old : Renumbered d.labels.bound a.names (view_of (shown_forest a) from) d.from
  pub new : Renumbered d.labels.bound b.names (view_of (shown_forest b) to) d.to
  pub walk_is : d.walk ≡ walk d.from d.to
  pub replays : ranges_after_all (Some d.from) d.walk ≡ Some d.to

-- space NAME is in one script alone
abbrev pub alone_text : Text → Text → Text
alone_text name which = (codes "space " ++ name) ++ (which ++ line_feed)

-- a space of the first script by its name, and of the second, where that has one
abbrev pub TellsBetween : State → State → Text → Option SpaceId → Option SpaceId → Text → Type 0
TellsBetween a b name None to text = text ≡ []
TellsBetween a b name (Some from) None text = text ≡ alone_text name (codes " is in the first script alone")
TellsBetween a b name (Some from) (Some to) text = (d : Difference) × Compares a b from to d × (text ≡ difference_text name d)

-- a space of the first script
abbrev pub TellsFirst : State → State → Text → Text → Type 0
TellsFirst a b name text = TellsBetween a b name (space_named a name) (space_named b name) text

-- a space of the second script, where the first has none of its name
abbrev pub second_text : State → Text → Text
second_text a name = if is_some (space_named a name) then [] else alone_text name (codes " is in the second script alone")

-- all spaces: those of the first script, each against its namesake in the second, and then those that the second has alone
abbrev pub TellsDiff : State → State → Text → Type 0
TellsDiff a b text =
    (here : Text) × (text ≡ here ++ flat_map (second_text a) b.names.spaces) × TellsAll (TellsFirst a b) a.names.spaces here
