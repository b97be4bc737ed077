-- The names that a script has made, by the ids of what they stand for.
use Rattle.std.specs.Prelude.{ℕ, List, [], Option}
use Rattle.std.specs.List.{slice_index_or, slice_get}
use Rattle.mem_base.specs.declared.map.ids.RegionId.{RegionId}
use Rattle.mem_base.specs.declared.map.ids.SpaceId.{SpaceId}
use Rattle.mem_base.specs.declared.map.ids.ListenerId.{ListenerId}
use Rattle.mem_base.specs.declared.map.ids.WatcherId.{WatcherId}
use Rattle.mem_base.specs.declared.map.kinds.Kind.{Kind}
use Rattle.mem_base.specs.script.Spelling.{Text}

-- The name of everything that was ever made, in order of making, and of each region its kind: lines go on to print a
-- dropped region. Each sort of thing has names of its own.
pub record Names : Type 0 where
  pub regions : List Text
  pub kinds : List Kind
  pub spaces : List Text
  pub listeners : List Text
  pub notifiers : List Text

-- nothing was made yet
abbrev pub no_names : Names
no_names = record { regions = []; kinds = []; spaces = []; listeners = []; notifiers = [] }

-- the name with a number; empty where there is none
abbrev pub name_at : List Text → ℕ → Text
name_at names n = slice_index_or names n []

-- the name of a region
abbrev pub region_name : Names → RegionId → Text
region_name names r = name_at names.regions r.0

-- the kind of a region that has a name
abbrev pub kind_named : Names → RegionId → Option Kind
kind_named names r = slice_get names.kinds r.0

-- the name of a space
abbrev pub space_name : Names → SpaceId → Text
space_name names s = name_at names.spaces s.0

-- the name of a listener
abbrev pub listener_name : Names → ListenerId → Text
listener_name names l = name_at names.listeners l.0

-- the name of a watcher
abbrev pub watcher_name : Names → WatcherId → Text
watcher_name names n = name_at names.notifiers n.0
