-- That a view is the one that the monitor's lines tell.
use Rattle.std.specs.Prelude.{◌≡◌, ℕ, ◌+◌, ◌==◌, ◌&&◌, Bool, true, false, not, if◌then◌else◌, List, [], ◌∷◌, Option, Some, None}
use Rattle.std.specs.List.{list_any}
use Rattle.mem_base.specs.declared.map.ids.RegionId.{RegionId}
use Rattle.mem_base.specs.declared.map.kinds.Kind.{Kind}
use Rattle.mem_base.specs.declared.map.kinds.Kind.TheVariants.{Ram, Rom, RomDevice, Host}
use Rattle.mem_base.specs.declared.map.spots.Attrs.{Attrs}
use Rattle.mem_base.specs.declared.views.flat.FlatRange.{FlatRange}
use Rattle.mem_base.specs.script.Named.{Names, kind_named, region_name}
use Rattle.monitor_text.specs.Names.{is_named_after}
use Rattle.monitor_text.specs.declared.rows.FlatRow.{FlatRow}
use Rattle.monitor_text.specs.declared.rows.RowKind.{RowKind}
use Rattle.monitor_text.specs.declared.rows.RowKind.TheVariants as told

-- what the monitor calls a kind, whether the range is read-only or not (QEMU's memory_region_type)
abbrev pub kind_alone : Option Kind → Bool → RowKind
kind_alone (Some Ram) romd = told.Ram
kind_alone (Some Host) romd = told.Ram
kind_alone (Some Rom) romd = told.Rom
kind_alone (Some (RomDevice device)) romd = if romd then told.RomDevice else told.Io
kind_alone kind romd = told.Io

-- `rom` of what is read-only (QEMU's mtree_print_flatview)
abbrev pub told_kind : Option Kind → Attrs → RowKind
told_kind kind attrs = if attrs.readonly then told.Rom else kind_alone kind attrs.romd

-- one kind; memory of a device of the host is RAM in a script
abbrev pub same_kind : RowKind → RowKind → Bool
same_kind told.Ram told.Ram = true
same_kind told.Rom told.Rom = true
same_kind told.RomDevice told.RomDevice = true
same_kind told.RamDevice told.RamDevice = true
same_kind told.RamDevice told.Ram = true
same_kind told.Io told.Io = true
same_kind a b = false

-- what stands for memory may be any memory
abbrev pub fits : RowKind → RowKind → Bool → Bool
fits row kind is_memory = if is_memory then not (same_kind row told.Io) else same_kind row kind

-- the region stands for memory
abbrev pub is_memory : List RegionId → RegionId → Bool
is_memory memory region = list_any (λ r. r.0 == region.0) memory

abbrev pub same_flag : Bool → Bool → Bool
same_flag a b = if a then b else not b

-- the line tells these addresses, this offset, and whether the memory is volatile
abbrev pub same_place : FlatRow → FlatRange → Bool
same_place row range =
    (row.start == range.start) && (row.last == range.last) && (row.offset == range.offset)
    && same_flag row.nonvolatile range.attrs.nonvolatile

-- the line tells the range, by these names
abbrev pub is_shown : Names → List RegionId → FlatRow → FlatRange → Bool
is_shown names memory row range =
    same_place row range && fits row.kind (told_kind (kind_named names range.leaf) range.attrs) (is_memory memory range.leaf)
    && is_named_after (region_name names range.leaf) row.name

-- the number of the first line that does not tell the range of its place, or that has none; lines and ranges are counted from `at`
abbrev pub first_difference : Names → List RegionId → ℕ → List FlatRow → List FlatRange → Option ℕ
first_difference names memory at [] [] = None
first_difference names memory at [] (range ∷ view) = Some at
first_difference names memory at (row ∷ rows) [] = Some at
first_difference names memory at (row ∷ rows) (range ∷ view) =
    if is_shown names memory row range then first_difference names memory (at + 1) rows view else Some at

-- there is a line for each range, in order, which tells it
abbrev pub AreShown : Names → List RegionId → List FlatRow → List FlatRange → Type 0
AreShown names memory [] [] = Unit {0}
AreShown names memory [] (range ∷ view) = ⊥
AreShown names memory (row ∷ rows) [] = ⊥
AreShown names memory (row ∷ rows) (range ∷ view) = (is_shown names memory row range ≡ true) × AreShown names memory rows view
