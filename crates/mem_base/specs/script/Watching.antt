-- The watchers of IOMMU regions' tables that a script makes: `watch` and `unwatch`.
-- A watcher has a range of one region's table. What it is told is made from the parts of the range that it was told so far
-- and those of the current generation.
use Rattle.std.specs.Prelude.{ℕ, ◌==◌, Bool, not, nat_lt, nat_le, List, [], ◌∷◌, length, map, filter, flat_map, Option}
use Rattle.mem_base.specs.declared.map.ids.RegionId.{RegionId}
use Rattle.mem_base.specs.declared.map.ids.WatcherId.{WatcherId}
use Rattle.mem_base.specs.declared.map.forests.Forest.{Forest}
use Rattle.mem_base.specs.declared.map.refusals.Refusal.{Refusal}
use Rattle.mem_base.specs.declared.map.refusals.Refusal.TheVariants.{BadSize, LimitReached}
use Rattle.mem_base.specs.declared.map.refusals.Which.TheVariants as which
use Rattle.mem_base.specs.declared.access.notices.Part.{Part}
use Rattle.mem_base.specs.declared.access.notices.Notice.{Notice}
use Rattle.mem_base.specs.map.Limits.{most_watchers}
use Rattle.mem_base.specs.map.Refusals.{first_refusal, refuse_if}
use Rattle.mem_base.specs.access.Parts.{parts_in, notices_between}

-- a watcher of a range of one region's table, from `first` to `last`
pub record Watcher : Type 0 where
  pub id : WatcherId
  pub region : RegionId
  pub first : ℕ
  pub last : ℕ
  pub parts : List Part  -- what it was told so far

-- a notice with the watcher that got it
abbrev pub Noticed : Type 0
Noticed = WatcherId × Notice

-- why a watcher of this range does not join: the range is empty, or too many watch
abbrev pub watch_refusal : List Watcher → ℕ → ℕ → Option Refusal
watch_refusal watchers first last = first_refusal
    (refuse_if (nat_lt last first) BadSize
    ∷ refuse_if (nat_le most_watchers (length watchers)) (LimitReached which.Watchers most_watchers) ∷ [])

-- the watcher has this number
abbrev pub is_watcher : ℕ → Watcher → Bool
is_watcher n w = w.id.0 == n

-- the parts of its range in a forest
abbrev pub parts_shown : Forest → Watcher → List Part
parts_shown f w = parts_in f w.region w.first w.last

-- a watcher that has other parts now, and what it is told on the way there
abbrev pub with_parts : List Part → Watcher → Watcher
with_parts parts w = record w { parts = parts }

-- what it is told on the way to these parts
abbrev pub notices_of : List Part → Watcher → List Noticed
notices_of parts w = map (λ x. (w.id, x)) (notices_between w.parts parts)

-- all watchers catch up with a generation's forest, in order of joining

-- the watchers with the parts of this forest
abbrev pub caught_up : Forest → List Watcher → List Watcher
caught_up f watchers = map (λ w. with_parts (parts_shown f w) w) watchers

-- what all of them are told on the way there
abbrev pub notices_all : Forest → List Watcher → List Noticed
notices_all f watchers = flat_map (λ w. notices_of (parts_shown f w) w) watchers

-- the watchers with this number, and those without it
abbrev pub with_number : ℕ → List Watcher → List Watcher
with_number n watchers = filter (is_watcher n) watchers

-- the watchers without this number
abbrev pub without_number : ℕ → List Watcher → List Watcher
without_number n watchers = filter (λ w. not (is_watcher n w)) watchers
