-- What is held by an object and by a list that are being made.
use Rattle.std.specs.Prelude.{List, map}
use Rattle.serde_json.specs.Data.{Data, Members}
use Rattle.serde_json.specs.View.{members_view, view}
use Rattle.json_build.specs.declared.fields.Fields.{Fields}
use Rattle.json_build.specs.declared.items.Items.{Items}

-- the members of the object
abbrev pub members : Fields → Members
members f = members_view f.map.entries

-- the values of the list
abbrev pub values : Items → List Data
values l = map view l.list.items
