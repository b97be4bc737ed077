-- What is told of a space.
use Rattle.std.specs.Prelude.{ℕ, Bool, List, ◌++◌, if◌then◌else◌, Option, None, Some, codes}
use Rattle.std.specs.List.{slice_get}
use Rattle.mem_base.specs.declared.views.flat.FlatRange.{FlatRange}
use Rattle.mem_base.specs.script.Spelling.{Text}
use Rattle.mem_base.specs.script.Named.{Names}
use Rattle.mem_base.specs.script.RefusalLines.{hex, line_feed}
use Rattle.mem_base.specs.script.SpotLines.{range_line}
use Rattle.monitor_text.specs.declared.rows.FlatRow.{FlatRow}
use Rattle.monitor_text.specs.declared.rows.RowKind.{RowKind}
use Rattle.monitor_text.specs.declared.rows.RowKind.TheVariants.{Ram, Rom, RomDevice, RamDevice, Io}
use Rattle.script_check.specs.Blocks.{Printed}
use Rattle.script_check.specs.declared.verdicts.Verdict.{Verdict}
use Rattle.script_check.specs.declared.verdicts.Verdict.TheVariants.{Same, Differs, Unprinted}

-- the monitor's words
abbrev pub kind_word : RowKind → Text
kind_word Ram = codes "ram"
kind_word Rom = codes "rom"
kind_word RomDevice = codes "romd"
kind_word RamDevice = codes "ramd"
kind_word Io = codes "i/o"

-- what stands before the word of a kind
abbrev pub volatile_word : Bool → Text
volatile_word nonvolatile = if nonvolatile then codes " nv-" else codes " "

-- START-LAST NAME @OFFSET KIND
abbrev pub row_text : FlatRow → Text
row_text r =
    hex r.start ++ (codes "-" ++ (hex r.last ++ (codes " " ++ (r.name ++ (codes " @" ++ (hex r.offset
    ++ (volatile_word r.nonvolatile ++ (kind_word r.kind ++ line_feed))))))))

abbrev pub row_or_none : Option FlatRow → Text
row_or_none None = codes "nothing more" ++ line_feed
row_or_none (Some row) = row_text row

abbrev pub range_or_none : Names → Option FlatRange → Text
range_or_none names None = codes "nothing more" ++ line_feed
range_or_none names (Some range) = range_line names range

-- the range of a view that was printed; none where there is no such view
abbrev pub row_in : Option Printed → ℕ → Option FlatRow
row_in None at = None
row_in (Some block) at = slice_get block.rows at

-- a range as QEMU's monitor and as the script has it
abbrev pub two_lines : Names → List FlatRange → Option Printed → ℕ → Text
two_lines names view block at =
    (codes "  QEMU:   " ++ row_or_none (row_in block at)) ++ (codes "  script: " ++ range_or_none names (slice_get view at))

-- what is told of the space of this name, with this view
abbrev pub verdict_text : Names → Text → List FlatRange → List Printed → Verdict → Text
verdict_text names name view blocks Same = name ++ (codes " same" ++ line_feed)
verdict_text names name view blocks Unprinted = name ++ (codes " is not in the monitor's text" ++ line_feed)
verdict_text names name view blocks (Differs block at) =
    name ++ ((codes " differs" ++ line_feed) ++ two_lines names view (slice_get blocks block) at)
