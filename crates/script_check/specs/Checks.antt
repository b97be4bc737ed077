-- The spaces of a script beside the monitor's text.
use Rattle.std.specs.Prelude.{◌≡◌, ◌≤◌, ◌⊎◌, ◌^◌, ◌==◌, ◌||◌, ℕ, Bool, true, false, not, if◌then◌else◌, List, [], ◌∷◌, ◌++◌, flat_map, length}
use Rattle.std.specs.Prelude.{Result, Ok, Err, ⊤, Contains, is_none, codes}
use Rattle.std.specs.List.{list_any}
use Rattle.std.specs.Global.{Vec}
use Rattle.mem_base.specs.declared.map.ids.RegionId.{RegionId}
use Rattle.mem_base.specs.declared.map.ids.SpaceId.{SpaceId}
use Rattle.mem_base.specs.declared.map.forests.Forest.{Forest}
use Rattle.mem_base.specs.lists.Every.{Every}
use Rattle.mem_base.specs.script.Spelling.{Text}
use Rattle.mem_base.specs.script.Scripts.{script_of}
use Rattle.mem_base.specs.script.Named.{Names, space_name}
use Rattle.mem_base.specs.script.RefusalLines.{line_feed}
use Rattle.mem_base.specs.views.Flattened.{view_of}
use Rattle.monitor_text.specs.Rows.{flat_line}
use Rattle.monitor_text.specs.Texts.{lines_of}
use Rattle.monitor_text.specs.declared.flat_text.FlatLine.{FlatLine}
use Rattle.view_check.specs.Shown.{AreShown, first_difference}
use Rattle.script_memory.specs.HandedOn.{shown_in}
use Rattle.script_memory.specs.Told.{IsToldByText, Told}
use Rattle.script_check.specs.Blocks.{Printed, blocks_of}
use Rattle.script_check.specs.Verdicts.{IsPrinted, verdict_from}
use Rattle.script_check.specs.Told.{verdict_text}
use Rattle.script_check.specs.declared.verdicts.Verdict.{Verdict}
use Rattle.script_check.specs.declared.verdicts.Verdict.TheVariants.{Same, Differs, Unprinted}
use Rattle.script_check.specs.declared.faults.CheckFault.{CheckFault}
use Rattle.script_check.specs.declared.faults.CheckFault.TheVariants.{Script, Flat, Long, Memory}

-- what is compared: the names and the forest that a script left, as they are told, its regions that are read as memory, and the views
-- that were printed
pub record Compared : Type 0 where
  pub names : Names
  pub forest : Forest
  pub memory : List RegionId
  pub blocks : List Printed

-- what comes of a space
abbrev pub space_verdict : Compared → SpaceId → Verdict
space_verdict x space = verdict_from x.names x.memory (space_name x.names space) (view_of x.forest space) 0 x.blocks

-- what is told of it
abbrev pub space_text : Compared → SpaceId → Text
space_text x space = verdict_text x.names (space_name x.names space) (view_of x.forest space) x.blocks (space_verdict x space)

-- the view of a space is, range by range, one that was printed of a space of its name
abbrev pub IsSpacePrinted : Compared → SpaceId → Type 0
IsSpacePrinted x space = IsPrinted x.names x.memory (space_name x.names space) (view_of x.forest space) x.blocks

-- the space is not told as the same
abbrev pub is_other : Verdict → Bool
is_other Same = false
is_other (Differs block at) = true
is_other Unprinted = true

-- what is told of some spaces, and whether one of them is not told as the same
abbrev pub spaces_text : Compared → List (SpaceId × RegionId) → Text
spaces_text x spaces = flat_map (λ space. space_text x space.0) spaces

abbrev pub some_differs : Compared → List (SpaceId × RegionId) → Bool
some_differs x spaces = list_any (λ space. is_other (space_verdict x space.0)) spaces

-- what is compared of what is told of a script, with these regions that are read as memory and these views
abbrev pub compared_with : Told → List RegionId → List Printed → Compared
compared_with m memory blocks = record { names = m.state.names; forest = (shown_in m.state).forest; memory = memory; blocks = blocks }

-- the same with its own such regions
abbrev pub compared : Told → List Printed → Compared
compared m blocks = compared_with m m.memory blocks

-- the view of a space is, range by range, this one that was printed, whatever the space is called
abbrev pub shows_view : Compared → Printed → SpaceId → Bool
shows_view x block space = is_none (first_difference x.names x.memory 0 block.rows (view_of x.forest space))

-- one of these spaces has the view
abbrev pub has_view : Compared → Printed → List (SpaceId × RegionId) → Bool
has_view x block spaces = list_any (λ space. shows_view x block space.0) spaces

-- a view that was printed of a space, and that none of these spaces has
abbrev pub is_missed : Compared → List (SpaceId × RegionId) → Printed → Bool
is_missed x spaces block = if length block.spaces == 0 then false else not (has_view x block spaces)

-- the first of the spaces of which a view was printed
abbrev pub first_name : List Text → Text
first_name [] = []
first_name (name ∷ names) = name

-- what is told of a view that is missed, by a name; by the first of its names; and of one view
unfoldable pub name_line : Text → Text
name_line name = codes "QEMU's view of " ++ (name ++ (codes ": no space of the script shows it" ++ line_feed))

abbrev pub missed_line : Printed → Text
missed_line block = name_line (first_name block.spaces)

abbrev pub missed_part : Compared → List (SpaceId × RegionId) → Printed → Text
missed_part x spaces block = if is_missed x spaces block then missed_line block else []

-- what is told of some views, and whether one of them is missed
abbrev pub missed_text : Compared → List (SpaceId × RegionId) → List Printed → Text
missed_text x spaces blocks = flat_map (missed_part x spaces) blocks

abbrev pub some_missed : Compared → List (SpaceId × RegionId) → List Printed → Bool
some_missed x spaces blocks = list_any (is_missed x spaces) blocks

-- what is told of all, and whether there is something to mend
abbrev pub told_text : Compared → Text
told_text x = spaces_text x x.forest.spaces ++ missed_text x x.forest.spaces x.blocks

abbrev pub some_differ : Compared → Bool
some_differ x = some_differs x x.forest.spaces || some_missed x x.forest.spaces x.blocks

-- the view of one of these spaces is, range by range, the one that was printed
pub record IsShownBy (x : Compared) (spaces : List (SpaceId × RegionId)) (block : Printed) : Type 0 where
  pub space : SpaceId × RegionId
  pub among : Contains spaces space
  pub shown : AreShown x.names x.memory block.rows (view_of x.forest space.0)

-- the same, where the view was printed of a space
abbrev pub IsFound : Compared → List (SpaceId × RegionId) → Printed → Type 0
IsFound x spaces block = ((length block.spaces == 0) ≡ true) ⊎ IsShownBy x spaces block

-- what is told of a script, by what it left and the views, and whether something differs: a space that is told as the same has a view that was
-- printed of it; and where nothing differs, all spaces have, and each view that was printed of a space is that of a space of the script
pub record IsToldOf (m : Told) (blocks : List Printed) (text : Text) (differs : Bool) : Type 0 where
  pub told : text ≡ told_text (compared m blocks)
  pub found : differs ≡ some_differ (compared m blocks)
  pub same : (space : SpaceId) → space_verdict (compared m blocks) space ≡ Same → IsSpacePrinted (compared m blocks) space
  pub all : differs ≡ false → Every (λ (s : SpaceId × RegionId). IsSpacePrinted (compared m blocks) s.0) (compared m blocks).forest.spaces
  pub whole : differs ≡ false → Every (IsFound (compared m blocks) (compared m blocks).forest.spaces) blocks

-- the same of a script by its text alone
pub record IsToldOfText (script : Text) (blocks : List Printed) (text : Text) (differs : Bool) : Type 0 where
  pub map : Told
  pub reads : IsToldByText script map
  pub told : IsToldOf map blocks text differs

-- the views of a text, or why there are none
abbrev pub ReadsBlocks : Text → Result (Vec Printed) CheckFault → Type 0
ReadsBlocks flat (Ok blocks) = (lines : List (ℕ × FlatLine)) × (lines_of flat_line flat ≡ Ok lines) × (blocks.items ≡ blocks_of lines)
ReadsBlocks flat (Err (Flat line)) = lines_of flat_line flat ≡ Err line
ReadsBlocks flat (Err Long) = 2 ^ 31 ≤ length flat
ReadsBlocks flat (Err Memory) = ⊤
ReadsBlocks flat (Err (Script bad)) = ⊥

-- what is told of a script beside the monitor's text, and whether a space is not told as the same
pub record IsChecked (script flat text : Text) (differs : Bool) : Type 0 where
  pub lines : List (ℕ × FlatLine)
  pub printed : lines_of flat_line flat ≡ Ok lines
  pub told : IsToldOfText script (blocks_of lines) text differs

-- why nothing is compared
abbrev pub Explains : Text → Text → CheckFault → Type 0
Explains script flat (Script bad) = script_of script ≡ Err bad
Explains script flat (Flat line) = lines_of flat_line flat ≡ Err line
Explains script flat Long = 2 ^ 31 ≤ length flat
Explains script flat Memory = ⊤
