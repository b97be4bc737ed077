-- The views of the monitor's text.
use Rattle.std.specs.Prelude.{ℕ, List, [], ◌∷◌, ◌++◌}
use Rattle.mem_base.specs.script.Spelling.{Text}
use Rattle.monitor_text.specs.declared.rows.FlatRow.{FlatRow}
use Rattle.monitor_text.specs.declared.flat_text.FlatLine.{FlatLine}
use Rattle.monitor_text.specs.declared.flat_text.FlatLine.TheVariants.{Other, View, Space, Empty, Row}

-- a view that was printed: the names of the spaces that show it, and its ranges
pub record Printed : Type 0 where
  pub spaces : List Text
  pub rows : List FlatRow

abbrev pub printed : List Text → List FlatRow → Printed
printed spaces rows = record { spaces = spaces; rows = rows }

-- what some lines give: what stands before the first `FlatView`, and the views after it
abbrev pub Cut : Type 0
Cut = Printed × List Printed

-- a line before what the lines after it give
abbrev pub put : FlatLine → Cut → Cut
put View rest = (printed [] [], rest.0 ∷ rest.1)
put (Space name) rest = (printed (name ∷ rest.0.spaces) rest.0.rows, rest.1)
put (Row row) rest = (printed rest.0.spaces (row ∷ rest.0.rows), rest.1)
put Other rest = rest
put Empty rest = rest

abbrev pub cut : List (ℕ × FlatLine) → Cut
cut [] = (printed [] [], [])
cut (line ∷ lines) = put line.1 (cut lines)

-- the views of a text's lines; what stands before the first `FlatView` is one of its own
abbrev pub blocks_of : List (ℕ × FlatLine) → List Printed
blocks_of lines = let c = cut lines in c.0 ∷ c.1

-- views that are done, the last one as far as it was read, and what the rest gives
abbrev pub behind : List Printed → Printed → Cut → List Printed
behind done last rest = done ++ (printed (last.spaces ++ rest.0.spaces) (last.rows ++ rest.0.rows) ∷ rest.1)
