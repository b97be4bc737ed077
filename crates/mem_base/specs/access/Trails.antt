-- The way of one address through translations to a leaf, which neighbours share it, and so the route of an access.
-- QEMU's core, `address_space_translate` and its IOMMU walk. The bound of eight translations is this project's own, and
-- so is that two neighbours share a route only where each search on the way of one finds the byte after the other's.
use Rattle.std.specs.Prelude.{ℕ, zero, suc, ◌+◌, Bool, true, false, ◌==◌, ◌&&◌, ◌||◌, not, if◌then◌else◌, List, [], ◌∷◌, Option, Some, None, filter_map}
use Rattle.mem_base.specs.lists.Booleans.{bool_eq}
use Rattle.mem_base.specs.declared.map.ids.RegionId.{RegionId}
use Rattle.mem_base.specs.declared.map.ids.SpaceId.{SpaceId}
use Rattle.mem_base.specs.declared.map.forests.Forest.{Forest}
use Rattle.mem_base.specs.views.Flattened.{same_path}
use Rattle.mem_base.specs.map.Attributes.{same_attrs}
use Rattle.mem_base.specs.declared.map.spots.Spot.{Spot}
use Rattle.mem_base.specs.declared.map.translations.Entry.{Entry}
use Rattle.mem_base.specs.declared.access.accesses.Target.{Target}
use Rattle.mem_base.specs.declared.access.accesses.Target.TheVariants.{Leaf, Unassigned}
use Rattle.mem_base.specs.map.Search.{Found, found_at}
use Rattle.mem_base.specs.map.Limits.{most_translations}
use Rattle.mem_base.specs.access.Translations.{translates, used_at, translated_address}
use Rattle.mem_base.specs.lists.Runs.{Run, runs}

-- one search of a trail: the spot that it found and on which path, and the translation that was used there, if any
pub record Hop : Type 0 where
  pub spot : Spot
  pub path : List RegionId
  pub used : Option Entry

-- one search of a trail, by what it found and the translation used
abbrev pub hop : Found → Option Entry → Hop
hop found used = record { spot = found.0; path = found.1; used = used }

-- all searches that found a spot, and where the last one ends
pub record Trail : Type 0 where
  pub hops : List Hop
  pub target : Target

-- a trail, by its searches and its end
abbrev pub trail : List Hop → Target → Trail
trail hops target = record { hops = hops; target = target }

-- how a trail goes on from an address of a space
abbrev pub Onward : Type 0
Onward = SpaceId → ℕ → Trail

-- the trail with one search more before it
abbrev pub begins_with : Hop → Trail → Trail
begins_with h t = trail (h ∷ t.hops) t.target

-- at an IOMMU region: the trail goes on where the translation that is used leads. Without one, or where no more may
-- be used, the address is unassigned
abbrev pub through : Option Onward → Found → Option Entry → Trail
through (Some onward) found (Some e) = begins_with (hop found (Some e)) (onward e.space (translated_address e found.0.offset))
through _ found _ = trail (hop found None ∷ []) Unassigned

-- a trail from what a search found: nothing is unassigned, an IOMMU region translates, any other leaf is the target
abbrev pub trail_at : Forest → Bool → Option Onward → Option Found → Trail
trail_at f write onward None = trail [] Unassigned
trail_at f write onward (Some found) =
    if translates f found.0.leaf then through onward found (used_at f write found.0.leaf found.0.offset)
    else trail (hop found None ∷ []) (Leaf found.0)

-- the trail of an address, on which at most `left` translations may still be used
abbrev pub trail_within : Forest → Bool → ℕ → SpaceId → ℕ → Trail
trail_within f write zero s a = trail_at f write None (found_at f s a)
trail_within f write (suc left) s a = trail_at f write (Some (trail_within f write left)) (found_at f s a)

-- the trail of an address, for a write or a read
abbrev pub trail_of : Forest → Bool → SpaceId → ℕ → Trail
trail_of f write s a = trail_within f write most_translations s a

-- the second spot is the byte after the first: in leaf, offset and attributes
abbrev pub is_next_spot : Spot → Spot → Bool
is_next_spot x y = (x.leaf.0 == y.leaf.0) && same_attrs x.attrs y.attrs && (x.offset + 1 == y.offset)

-- the same translation of one region, told by its address, since no two translations of a region have one address; or
-- no translation in both
abbrev pub is_same_entry : Option Entry → Option Entry → Bool
is_same_entry None None = true
is_same_entry (Some x) (Some y) = x.iova == y.iova
is_same_entry _ _ = false

-- the second search finds the byte after the first one's, uses the same translation and, where what is found is
-- unmergeable, finds it on the same path
abbrev pub is_next_hop : Hop → Hop → Bool
is_next_hop x y =
    is_next_spot x.spot y.spot && is_same_entry x.used y.used && (not x.spot.attrs.unmergeable || same_path x.path y.path)

-- each search of one finds the byte after what the same search of the other finds
abbrev pub are_next_hops : List Hop → List Hop → Bool
are_next_hops [] [] = true
are_next_hops (x ∷ xs) (y ∷ ys) = is_next_hop x y && are_next_hops xs ys
are_next_hops _ _ = false

-- the address ends in a leaf
abbrev pub is_leaf : Target → Bool
is_leaf (Leaf spot) = true
is_leaf Unassigned = false

-- each search of one finds the byte after what the same search of the other finds; so both end in a leaf or neither does,
-- from whatever cause, which is said once more
abbrev pub is_next_trail : Trail → Trail → Bool
is_next_trail x y = are_next_hops x.hops y.hops && bool_eq (is_leaf x.target) (is_leaf y.target)

-- an address shares the route with the next one
abbrev pub shares_next : Forest → Bool → SpaceId → ℕ → Bool
shares_next f write s a = is_next_trail (trail_of f write s a) (trail_of f write s (a + 1))

-- the chunks of the addresses from `a` on, `bytes` of them: the longest runs that share a route
abbrev pub chunks : Forest → Bool → SpaceId → ℕ → ℕ → List Run
chunks f write s a bytes = runs (shares_next f write s) a bytes

-- the route of some addresses in a row: where the first ends, how many from it on share the route, and the
-- translations used, in order
pub record Route : Type 0 where
  pub target : Target
  pub length : ℕ
  pub used : List Entry

-- how many bytes the first chunk has
abbrev pub first_length : List Run → ℕ
first_length [] = 0
first_length (r ∷ rs) = r.length

-- the route of an access: where its first byte ends, how many bytes share that way, and the translations on it
abbrev pub route_of : Forest → Bool → SpaceId → ℕ → ℕ → Route
route_of f write s a bytes = record {
  target = (trail_of f write s a).target;
  length = first_length (chunks f write s a bytes);
  used = filter_map (λ h. h.used) (trail_of f write s a).hops;
}
