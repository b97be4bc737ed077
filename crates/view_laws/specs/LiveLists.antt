-- Live ioeventfds: as a relation on addresses, as a list by addresses, and as a list by the ranges of a view.
use Rattle.std.specs.Prelude.{◌≡◌, ◌<◌, ◌↔◌, List, Contains}
use Rattle.mem_base.specs.declared.map.ids.RegionId.{RegionId}
use Rattle.mem_base.specs.declared.map.ids.SpaceId.{SpaceId}
use Rattle.mem_base.specs.declared.views.flat.FlatRange.{FlatRange}
use Rattle.mem_base.specs.declared.map.ioevents.Live.{Live}
use Rattle.mem_base.specs.declared.map.forests.Forest.{Forest}
use Rattle.mem_base.specs.lists.Every.{Every}
use Rattle.mem_base.specs.lists.Sorting.{IsRising}
use Rattle.mem_base.specs.views.View.{Agrees}
use Rattle.mem_base.specs.views.LiveEvents.{events_of, live_order, lives_of, lives_in, IsLive}

-- the list of a forest at a space holds just what is live there, in order, each once
pub record ListsLive (f : Forest) (s : SpaceId) : Type 0 where
  pub members : (l : Live) → Contains (lives_of f s) l ↔ IsLive f s l
  pub rising : IsRising live_order (lives_of f s)

abbrev pub LivesAreLive : Type 0
LivesAreLive = (f : Forest) (s : SpaceId) → ListsLive f s

-- each ioeventfd of each region has bytes
abbrev pub HaveBytes : Forest → Type 0
HaveBytes f = (region : RegionId) → Every (λ e. 0 < e.size) (events_of f region)

-- the live ioeventfds of ranges that agree with the forest are those of the forest's addresses
abbrev pub LivesAgree : Type 0
LivesAgree = (f : Forest) (s : SpaceId) (rs : List FlatRange) → HaveBytes f → Agrees f s rs → lives_of f s ≡ lives_in f rs
