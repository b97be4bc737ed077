-- What the watchers with their journal are seen as.
use Rattle.std.specs.Prelude.{◌≡◌, ◌==◌, ℕ, ◌≤◌, false, not, Bool, List, [], map, filter, flat_map, drop, length, Option}
use Rattle.std.specs.Prelude.{Some}
use Rattle.std.specs.Option.{option_or}
use Rattle.std.specs.List.{list_any}
use Rattle.mem_base.specs.declared.map.ids.WatcherId.{WatcherId}
use Rattle.mem_base.specs.declared.map.ids.RegionId.{RegionId}
use Rattle.mem_base.specs.declared.map.forests.Forest.{Forest}
use Rattle.mem_base.specs.declared.map.refusals.What.TheVariants as what
use Rattle.mem_base.specs.declared.map.refusals.Refusal.{Refusal}
use Rattle.mem_base.specs.declared.map.refusals.Refusal.TheVariants.{NameTaken}
use Rattle.mem_base.specs.map.Refusals.{refuse_if}
use Rattle.mem_base.specs.lists.Every.{Every, EveryPair}
use Rattle.mem_base.specs.access.Parts.{notices_to, replay_notices}
use Rattle.mem_base.specs.script.Watching.{Watcher, Noticed, is_watcher, watch_refusal, parts_shown, with_parts, notices_of}
use Rattle.iommu_notify.specs.PartLists.{AreParts}
use Rattle.iommu_notify.specs.declared.watchers.Watcher.TheInside.{Inside}

-- a watcher, and how many notices there were when it joined
pub record Joined : Type 0 where
  pub watcher : Watcher
  pub since : ℕ

abbrev pub joined : Watcher → ℕ → Joined
joined watcher since = record { watcher = watcher; since = since }

-- a watcher's range has an address, and its parts are parts in order
abbrev pub IsWatcher : Watcher → Type 0
IsWatcher w = (w.first ≤ w.last) × AreParts w.parts

-- a watcher of a range, which was told of no part yet
abbrev pub new_watcher : WatcherId → RegionId → ℕ → ℕ → Watcher
new_watcher id region first last = record { id = id; region = region; first = first; last = last; parts = [] }

-- who watches, in order of joining, and all notices, the oldest first
pub record NoticesState : Type 0 where
  pub joined : List Joined
  pub journal : List Noticed

abbrev pub notices_state : List Joined → List Noticed → NoticesState
notices_state watchers journal = record { joined = watchers; journal = journal }

abbrev pub watchers_of : NoticesState → List Watcher
watchers_of s = map (λ j. j.watcher) s.joined

abbrev pub is_joined : WatcherId → Joined → Bool
is_joined id j = is_watcher id.0 j.watcher

abbrev pub has_watcher : NoticesState → WatcherId → Bool
has_watcher s id = list_any (is_joined id) s.joined

-- why a watcher does not join: the id is there already, the range is empty, or too many watch
abbrev pub join_refusal : NoticesState → WatcherId → ℕ → ℕ → Option Refusal
join_refusal s id first last = option_or (refuse_if (has_watcher s id) (NameTaken (what.Watcher id)))
    (watch_refusal (watchers_of s) first last)

-- the notices that a watcher got since it joined, one after another, leave it just its parts
abbrev pub IsReplayed : List Noticed → Joined → Type 0
IsReplayed journal j =
    (j.since ≤ length journal) × (replay_notices (notices_to j.watcher.id (drop j.since journal)) ≡ Some j.watcher.parts)

-- two watchers have one id
abbrev pub has_same_id : Joined → Joined → Bool
has_same_id i j = i.watcher.id.0 == j.watcher.id.0

-- the notices of each watcher leave it its parts, no two watchers have one id, and the parts of each stand in order
pub record AreReplayed (s : NoticesState) : Type 0 where
  pub each : Every (IsReplayed s.journal) s.joined
  pub apart : EveryPair (λ i j. has_same_id i j ≡ false) s.joined
  pub ordered : Every (λ j. AreParts j.watcher.parts) s.joined

-- what one watcher is seen as
abbrev pub seen : Inside → Joined
seen w = joined (record { id = w.id; region = w.region; first = w.first; last = w.last; parts = w.parts.items }) w.since

-- a watcher that has caught up with a forest, and what it is told on the way there
abbrev pub caught : Forest → Joined → Joined
caught f j = joined (with_parts (parts_shown f j.watcher) j.watcher) j.since

abbrev pub told : Forest → Joined → List Noticed
told f j = notices_of (parts_shown f j.watcher) j.watcher

-- the watchers that do not have an id, and what those that have it are told when they leave
abbrev pub others : WatcherId → List Joined → List Joined
others id js = filter (λ j. not (is_joined id j)) js

abbrev pub leaving : WatcherId → List Joined → List Noticed
leaving id js = flat_map (λ j. notices_of [] j.watcher) (filter (is_joined id) js)
