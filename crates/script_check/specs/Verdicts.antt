-- A space beside the views that name it.
use Rattle.std.specs.Prelude.{◌≡◌, ℕ, ◌+◌, Bool, true, if◌then◌else◌, List, [], ◌∷◌, Option, None, Some, Contains}
use Rattle.std.specs.List.{list_any}
use Rattle.mem_base.specs.declared.map.ids.RegionId.{RegionId}
use Rattle.mem_base.specs.declared.views.flat.FlatRange.{FlatRange}
use Rattle.mem_base.specs.script.Spelling.{Text}
use Rattle.mem_base.specs.script.Named.{Names}
use Rattle.monitor_text.specs.Names.{is_named_after}
use Rattle.view_check.specs.Shown.{AreShown, first_difference}
use Rattle.script_check.specs.Blocks.{Printed}
use Rattle.script_check.specs.declared.verdicts.Verdict.{Verdict}
use Rattle.script_check.specs.declared.verdicts.Verdict.TheVariants.{Same, Differs, Unprinted}

-- a space of this name is one that the monitor calls so
unfoldable pub is_called : Text → Text → Bool
is_called name told = is_named_after name told

-- the view is one of a space of this name
abbrev pub is_of : Text → Printed → Bool
is_of name block = list_any (is_called name) block.spaces

-- one that is the space's own settles it; of others the first counts
abbrev pub first_verdict : Verdict → Verdict → Verdict
first_verdict Same rest = Same
first_verdict Unprinted rest = rest
first_verdict (Differs block at) Same = Same
first_verdict (Differs block at) rest = Differs block at

-- what comes of the view with a number, by its first range that differs
abbrev pub verdict_by : ℕ → Option ℕ → Verdict
verdict_by n None = Same
verdict_by n (Some at) = Differs n at

-- what comes of one view
abbrev pub verdict_on : Names → List RegionId → Text → List FlatRange → ℕ → Printed → Verdict
verdict_on names memory name view n block =
    if is_of name block then verdict_by n (first_difference names memory 0 block.rows view) else Unprinted

-- what comes of all, which are counted from n
abbrev pub verdict_from : Names → List RegionId → Text → List FlatRange → ℕ → List Printed → Verdict
verdict_from names memory name view n [] = Unprinted
verdict_from names memory name view n (block ∷ blocks) =
    first_verdict (verdict_on names memory name view n block) (verdict_from names memory name view (n + 1) blocks)

-- the view of a space is one that was printed of it
pub record IsPrinted (names : Names) (memory : List RegionId) (name : Text) (view : List FlatRange) (blocks : List Printed) : Type 0 where
  pub block : Printed
  pub among : Contains blocks block
  pub named : is_of name block ≡ true
  pub shown : AreShown names memory block.rows view
