-- The lines of a difference.
use Rattle.std.specs.Prelude.{List, ◌++◌, codes}
use Rattle.mem_base.specs.declared.views.flat.FlatRange.{FlatRange}
use Rattle.mem_base.specs.declared.views.listening.RangeEvent.{RangeEvent}
use Rattle.mem_base.specs.declared.views.listening.RangeEvent.TheVariants.{Delete, Add, Keep, LogStart, LogStop}
use Rattle.mem_base.specs.script.Spelling.{Text}
use Rattle.mem_base.specs.script.Named.{name_at}
use Rattle.mem_base.specs.script.RefusalLines.{hex, line_feed}
use Rattle.mem_base.specs.script.SpotLines.{attrs_text}

-- START-LAST NAME KIND @OFFSET FLAGS
abbrev pub range_text : List Text → FlatRange → Text
range_text labels r =
    hex r.start ++ (codes "-" ++ (hex r.last ++ (codes " " ++ (name_at labels r.leaf.0 ++ (codes " @" ++ (hex r.offset ++ attrs_text r.attrs))))))

-- a sign, and then the range
abbrev pub signed_line : Text → List Text → FlatRange → Text
signed_line sign labels r = sign ++ (range_text labels r ++ line_feed)

-- the line of one step: `-` is in the first view alone, `+` in the second alone, two spaces in both; `l` tells the other logging mask of
-- a range that is in both
abbrev pub step_text : List Text → RangeEvent → Text
step_text labels (Delete r) = signed_line (codes "- ") labels r
step_text labels (Add r) = signed_line (codes "+ ") labels r
step_text labels (Keep r) = signed_line (codes "  ") labels r
step_text labels (LogStart r from to) = signed_line (codes "l ") labels r
step_text labels (LogStop r from to) = signed_line (codes "l ") labels r
