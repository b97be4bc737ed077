-- What holds of each forest that accepted calls make of the empty one.
use Rattle.std.specs.Prelude.{◌≡◌, ◌≢◌, ℕ, ◌+◌, ◌^◌, ◌<◌, ◌≤◌, false, List, [], length, Option, Some, None, IsSome}
use Rattle.mem_base.specs.declared.map.ids.RegionId.{RegionId}
use Rattle.mem_base.specs.declared.map.ids.SpaceId.{SpaceId}
use Rattle.mem_base.specs.declared.map.forests.Node.{Node}
use Rattle.mem_base.specs.declared.map.forests.Forest.{Forest}
use Rattle.mem_base.specs.declared.map.kinds.Kind.{Kind}
use Rattle.mem_base.specs.declared.map.kinds.Kind.TheVariants.{Alias}
use Rattle.mem_base.specs.declared.map.calls.Call.{Call}
use Rattle.mem_base.specs.declared.map.calls.Call.TheVariants as calls
use Rattle.mem_base.specs.map.Limits.{most_depth, most_weight, most_regions, most_made, most_spaces, most_entries, most_events, most_calls}
use Rattle.mem_base.specs.lists.Every.{Every, EveryPair}
use Rattle.mem_base.specs.map.Region.{IsAscending, node_of}
use Rattle.mem_base.specs.map.Kinds.{is_alias, is_memory, is_rom_device, is_iommu, takes_events, device_of, target_of}
use Rattle.mem_base.specs.map.Search.{root_of}
use Rattle.mem_base.specs.map.Entries.{AreEntries}
use Rattle.mem_base.specs.map.Events.{AreEvents}
use Rattle.mem_base.specs.map.Refusals.{bad_size}
use Rattle.mem_base.specs.map.TableRefusals.{bad_device, bad_page, bad_event}
use Rattle.mem_base.specs.map.Calls.{after_all, empty}
use Rattle.mem_base.specs.map.Steps.{greatest_depth, greatest_weight}

-- a container was made, and the place in it was given, before now
abbrev pub IsPlacedBefore : ℕ → ℕ → Option RegionId → ℕ → Type 0
IsPlacedBefore made placings None placing = Unit {0}
IsPlacedBefore made placings (Some p) placing = (p.0 < made) × (placing < placings)

-- the target of an alias was made before now
abbrev pub IsTargetBefore : ℕ → Kind → Type 0
IsTargetBefore made (Alias target offset) = target.0 < made
IsTargetBefore made _ = Unit {0}

-- order, counts and bounds: regions stand by ascending id, what a region names was counted before it, and no depth or
-- weight is above its limit. An accepted call keeps this, also where the forest is not closed
pub record IsOrderedForest (f : Forest) : Type 0 where
  pub ascending : IsAscending f.nodes
  -- each region was made
  pub made_before : Every (λ n. n.id.0 < f.made) f.nodes
  pub placed_before : Every (λ n. IsPlacedBefore f.made f.placings n.parent n.placing) f.nodes
  -- each placing is a call
  pub few_placings : f.placings ≤ f.calls
  pub targets_before : Every (λ n. IsTargetBefore f.made n.kind) f.nodes
  -- no depth is above its limit
  pub shallow : greatest_depth f.nodes ≤ most_depth
  -- no weight is above its limit
  pub narrow : greatest_weight f.nodes ≤ most_weight

-- a region that is there and is no alias
abbrev pub IsPlainRegion : Option Node → Type 0
IsPlainRegion None = ⊥
IsPlainRegion (Some n) = is_alias n.kind ≡ false

-- the container, if any, is there and is no alias
abbrev pub HasPlainContainer : List Node → Option RegionId → Type 0
HasPlainContainer nodes None = Unit {0}
HasPlainContainer nodes (Some p) = IsPlainRegion (node_of nodes p)

-- the target, if any, is there
abbrev pub HasTarget : List Node → Option RegionId → Type 0
HasTarget nodes None = Unit {0}
HasTarget nodes (Some t) = IsSome (node_of nodes t)

-- a region among these regions
pub record IsRegion (nodes : List Node) (n : Node) : Type 0 where
  pub container : HasPlainContainer nodes n.parent
  pub target : HasTarget nodes (target_of n.kind)
  -- at most the whole of a 64-bit space
  pub size : n.size ≤ 2 ^ 64
  -- one that a new region of the kind may have
  pub sized : bad_size n.kind n.size ≡ None
  -- one that a new region may have
  pub device : bad_device (device_of n.kind) ≡ None
  -- the mode of a ROM device is off for all other kinds
  pub romd : is_rom_device n.kind ≡ false → n.romd ≡ false
  -- a bit for each of three clients
  pub log : n.log ≤ 7
  pub entries : AreEntries n.entries
  pub pages : Every (λ e. bad_page e.iova (e.mask + 1) ≡ None) n.entries
  pub few_entries : length n.entries ≤ most_entries
  pub events : AreEvents n.events
  pub good_events : Every (λ e. bad_event e ≡ None) n.events
  pub few_events : length n.events ≤ most_events
  -- only an IOMMU region translates, only a device has ioeventfds, only memory is logged
  pub untranslated : is_iommu n.kind ≡ false → n.entries ≡ []
  pub uneventful : takes_events n.kind ≡ false → n.events ≡ []
  pub unlogged : is_memory n.kind ≡ false → n.log ≡ 0

-- two regions in containers were not placed by one placing
abbrev pub ArePlacedApart : Node → Node → Type 0
ArePlacedApart n m = IsSome n.parent → IsSome m.parent → n.placing ≢ m.placing

-- two spaces have different ids
abbrev pub AreOtherSpaces : SpaceId × RegionId → SpaceId × RegionId → Type 0
AreOtherSpaces p q = p.0.0 ≢ q.0.0

-- the spaces that translations lead to are there
abbrev pub HasSpaces : Forest → Node → Type 0
HasSpaces f n = Every (λ e. IsSome (root_of f e.space)) n.entries

-- closure: all that a region, a space or a translation names is there, and counts are within limits
pub record IsClosedForest (f : Forest) : Type 0 where
  pub regions : Every (IsRegion f.nodes) f.nodes
  pub placings : EveryPair ArePlacedApart f.nodes
  -- the root of each space is there
  pub roots : Every (λ p. IsSome (node_of f.nodes p.1)) f.spaces
  pub translated : Every (HasSpaces f) f.nodes
  pub spaces : EveryPair AreOtherSpaces f.spaces
  pub few_regions : length f.nodes ≤ most_regions
  pub few_made : f.made ≤ most_made
  pub few_spaces : length f.spaces ≤ most_spaces
  pub few_calls : f.calls ≤ most_calls

-- the sizes of a call, and the address of a page that it maps, are such as the types of these fields hold; the laws of
-- forests ask for no bound on its other numbers
abbrev pub FitsTypes : Call → Type 0
FitsTypes (calls.Region kind size) = size ≤ 2 ^ 64
FitsTypes (calls.Resize region size) = size ≤ 2 ^ 64
FitsTypes (calls.Map region iova size space translated perm) = (iova < 2 ^ 64) × (size ≤ 2 ^ 64)
FitsTypes _ = Unit {0}

-- the forest is one that calls make of the empty one: accepted ones, since a refused call changes nothing
pub record IsMade (f : Forest) : Type 0 where
  pub calls : List Call
  pub fitting : Every FitsTypes calls
  pub made : after_all empty calls ≡ f
