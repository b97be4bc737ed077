-- The lines of slots.
use Rattle.std.specs.Prelude.{ℕ, ◌++◌, codes, decimal}
use Rattle.mem_base.specs.declared.views.flat.FlatRange.{FlatRange}
use Rattle.mem_base.specs.declared.views.listening.RangeEvent.{RangeEvent}
use Rattle.mem_base.specs.declared.views.listening.RangeEvent.TheVariants.{Delete, Add, Keep, LogStart, LogStop}
use Rattle.mem_base.specs.script.Spelling.{Text}
use Rattle.mem_base.specs.script.Named.{Names}
use Rattle.mem_base.specs.script.RefusalLines.{line_feed}
use Rattle.mem_base.specs.script.SpotLines.{range_line}

-- slots SPACE gN
abbrev pub header_line : Text → ℕ → Text
header_line space generation = codes "slots " ++ (space ++ (codes " g" ++ (decimal generation ++ line_feed)))

-- slot N RANGE
abbrev pub slot_line : ℕ → Names → FlatRange → Text
slot_line number names r = codes "slot " ++ (decimal number ++ (codes " " ++ range_line names r))

-- the sign of a step
abbrev pub sign_text : RangeEvent → Text
sign_text (Delete r) = codes "- "
sign_text (Add r) = codes "+ "
sign_text (Keep r) = codes "  "
sign_text (LogStart r from to) = codes "l "
sign_text (LogStop r from to) = codes "l "

-- the range of a step
abbrev pub range_of : RangeEvent → FlatRange
range_of (Delete r) = r
range_of (Add r) = r
range_of (Keep r) = r
range_of (LogStart r from to) = r
range_of (LogStop r from to) = r

-- SIGN slot N RANGE
abbrev pub step_line : ℕ → Names → RangeEvent → Text
step_line number names step = sign_text step ++ slot_line number names (range_of step)
