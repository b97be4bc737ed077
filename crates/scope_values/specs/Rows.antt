-- The rows of a picture, as JSON.
use Rattle.std.specs.Prelude.{List, ◌∷◌, codes}
use Rattle.serde_json.specs.Data.{Data, string}
use Rattle.json_build.specs.Parts.{record_of}
use Rattle.mem_base.specs.script.Named.{Names}
use Rattle.mem_base.specs.script.Spelling.{Text}
use Rattle.view_picture.specs.declared.rows.Row.{Row}
use Rattle.view_picture.specs.declared.rows.Row.TheVariants.{Range, Hole}
use Rattle.scope_values.specs.Ranges.{ends_fields, range_fields}

-- a range of the view, or addresses where nothing answers
abbrev pub row_fields : Names → Row → List (Text × Data)
row_fields names (Range r) = (codes "row", string (codes "range")) ∷ range_fields names r
row_fields names (Hole start last) = (codes "row", string (codes "hole")) ∷ ends_fields start last

abbrev pub row_data : Names → Row → Data
row_data names row = record_of (row_fields names row)
