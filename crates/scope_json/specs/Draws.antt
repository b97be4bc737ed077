-- `draw` as JSON: the rows of a picture.
use Rattle.std.specs.Prelude.{◌≡◌, ◌^◌, [], ◌∷◌, List, Some, codes, map}
use Rattle.serde_json.specs.Data.{Data}
use Rattle.json_build.specs.Parts.{list_of, name_of}
use Rattle.mem_base.specs.declared.map.ids.SpaceId.{SpaceId}
use Rattle.mem_base.specs.script.Named.{Names}
use Rattle.mem_base.specs.script.Shows.{shown_forest}
use Rattle.mem_base.specs.script.Spelling.{Text}
use Rattle.mem_base.specs.script.States.{State, space_named}
use Rattle.mem_base.specs.views.Flattened.{view_of}
use Rattle.view_picture.specs.Rows.{Tiles, ranges_of}
use Rattle.view_picture.specs.declared.rows.Row.{Row}
use Rattle.scope_values.specs.Rows.{row_data}
use Rattle.scope_json.specs.Texts.{answer_of}

abbrev pub draw_fields : Text → Names → List Row → List (Text × Data)
draw_fields space names rows = (codes "space", name_of space) ∷ (codes "rows", list_of (map (row_data names) rows)) ∷ []

abbrev pub draw_data : Text → Names → List Row → Data
draw_data space names rows = answer_of (codes "draw") (draw_fields space names rows)

-- the rows go over all addresses, and their ranges are those of the view
pub record TellsDraw (s : State) (space : Text) (d : Data) : Type 0 where
  pub id : SpaceId
  pub named : space_named s space ≡ Some id
  pub rows : List Row
  pub tiles : Tiles 0 (2 ^ 64) rows
  pub ranges : ranges_of rows ≡ view_of (shown_forest s) id
  pub data_is : d ≡ draw_data space s.names rows
