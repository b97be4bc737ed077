-- Which regions a forest names, and whether one of them has an ioeventfd.
use Rattle.std.specs.Prelude.{◌≡◌, ◌↔◌, ℕ, ◌^◌, ◌<◌, true, length, IsSomeAnd}
use Rattle.mem_base.specs.declared.map.ids.RegionId.{RegionId}
use Rattle.mem_base.specs.declared.map.ids.SpaceId.{SpaceId}
use Rattle.mem_base.specs.declared.map.forests.Forest.{Forest}
use Rattle.mem_base.specs.map.Search.{look}
use Rattle.mem_base.specs.views.LiveEvents.{events_of}
use Rattle.mem_base.specs.views.Naming.{names, shows_events}

-- some address of some space has this region as its leaf
abbrev pub Names : Forest → RegionId → Type 0
Names f region = (s : SpaceId) × (a : ℕ) × (a < 2 ^ 64) × IsSomeAnd (look f s a) (λ spot. spot.leaf ≡ region)

-- the test on views says just that
abbrev pub NamesAreLeaves : Type 0
NamesAreLeaves = (f : Forest) (region : RegionId) → (names f region ≡ true) ↔ Names f region

-- some region that the forest names has an ioeventfd
abbrev pub ShowsEvents : Forest → Type 0
ShowsEvents f = (region : RegionId) × Names f region × (0 < length (events_of f region))

abbrev pub EventsAreShown : Type 0
EventsAreShown = (f : Forest) → (shows_events f ≡ true) ↔ ShowsEvents f
