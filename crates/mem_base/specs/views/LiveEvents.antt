-- The ioeventfds that an address space shows, and how they differ between two generations.
-- QEMU's core, `address_space_update_ioeventfds`: an ioeventfd is live where the view shows some of its bytes, and its
-- address is that of its first byte, also where only later ones are shown.
use Rattle.std.specs.Prelude.{◌≡◌, ℕ, zero, suc, ◌^◌, ◌<◌, Bool, false, ◌&&◌, not, if◌then◌else◌, List, [], ◌∷◌, ◌++◌, map, filter}
use Rattle.std.specs.Prelude.{flat_map, Contains, Option, Some, None, pos, ◌+ℤ◌, ◌-ℤ◌, ◌≤ℤ◌, ◌<ℤ◌, int_lt, int_le}
use Rattle.std.specs.List.{list_any}
use Rattle.std.specs.declared.cmp.Ordering.{Ordering}
use Rattle.std.specs.Ordering.{is_lt, is_eq, int_cmp, nat_cmp, bool_cmp, ordering_then}
use Rattle.mem_base.specs.declared.map.ids.RegionId.{RegionId}
use Rattle.mem_base.specs.declared.map.ids.SpaceId.{SpaceId}
use Rattle.mem_base.specs.declared.map.spots.Spot.{Spot}
use Rattle.mem_base.specs.declared.views.flat.FlatRange.{FlatRange}
use Rattle.mem_base.specs.declared.map.ioevents.Ioevent.{Ioevent}
use Rattle.mem_base.specs.declared.map.ioevents.Live.{Live}
use Rattle.mem_base.specs.declared.map.forests.Forest.{Forest}
use Rattle.mem_base.specs.lists.Every.{Every}
use Rattle.mem_base.specs.map.Search.{look}
use Rattle.mem_base.specs.map.Region.{of_region}

-- the ioeventfds of a region
abbrev pub events_of : Forest → RegionId → List Ioevent
events_of f region = of_region f.nodes region [] (λ n. n.events)

-- live ioeventfds stand by address, size, whether they are matched (false first), value and number
abbrev pub live_order : Live → Live → Ordering
live_order x y =
    ordering_then (int_cmp x.addr y.addr)
    (ordering_then (nat_cmp x.size y.size)
    (ordering_then (bool_cmp x.matched y.matched) (ordering_then (nat_cmp x.value y.value) (nat_cmp x.number y.number))))

-- one and the same
abbrev pub is_same_live : Live → Live → Bool
is_same_live x y = is_eq (live_order x y)

-- one more live ioeventfd in its place, unless it is there
abbrev pub put_live : Live → List Live → List Live
put_live x [] = x ∷ []
put_live x (y ∷ ys) = if is_lt (live_order x y) then x ∷ y ∷ ys else if is_same_live x y then y ∷ ys else y ∷ put_live x ys

-- live ioeventfds in order, equal ones once
abbrev pub lives_in_order : List Live → List Live
lives_in_order [] = []
lives_in_order (x ∷ xs) = put_live x (lives_in_order xs)

-- an ioeventfd of a leaf of which the byte at `offset` is shown at an address
abbrev pub moved_to : ℕ → ℕ → Ioevent → Live
moved_to address offset e = record {
  addr = (pos address -ℤ pos offset) +ℤ pos e.offset;
  size = e.size;
  matched = e.matched;
  value = e.value;
  number = e.number;
}

-- its bytes meet the addresses from one to another, both inclusive
abbrev pub meets : ℕ → ℕ → Live → Bool
meets start last l = int_le l.addr (pos last) && int_lt (pos start) (l.addr +ℤ pos l.size)

-- the ioeventfds of which an address shows a byte
abbrev pub lives_at : Forest → ℕ → Option Spot → List Live
lives_at f a None = []
lives_at f a (Some spot) = filter (meets a a) (map (moved_to a spot.offset) (events_of f spot.leaf))

-- the ioeventfds that the addresses below a number show, by what each address shows
unfoldable pub lives_below : Forest → ℕ → (ℕ → Option Spot) → List Live
lives_below f zero spot_at = []
lives_below f (suc a) spot_at = lives_in_order (lives_at f a (spot_at a) ++ lives_below f a spot_at)

-- the live ioeventfds of a forest at a space, by its addresses
abbrev pub lives_of : Forest → SpaceId → List Live
lives_of f s = lives_below f (2 ^ 64) (look f s)

-- the same as a relation: at some address of the space, at which a byte of the ioeventfd lies, its region shows that
-- byte
pub record IsLive (f : Forest) (s : SpaceId) (l : Live) : Type 0 where
  pub address : ℕ
  pub below : address < 2 ^ 64
  pub spot : Spot
  pub shows : look f s address ≡ Some spot
  pub event : Ioevent
  pub among : Contains (events_of f spot.leaf) event
  pub moved : l ≡ moved_to address spot.offset event
  pub from : l.addr ≤ℤ pos address
  pub to : pos address <ℤ (l.addr +ℤ pos l.size)

-- the live ioeventfds of a view: each ioeventfd of each range's leaf, moved with the range, where its bytes meet it
abbrev pub lives_of_range : Forest → FlatRange → List Live
lives_of_range f r = filter (meets r.start r.last) (map (moved_to r.start r.offset) (events_of f r.leaf))

-- the ioeventfds that are live in some ranges of a view, in order
abbrev pub lives_in : Forest → List FlatRange → List Live
lives_in f rs = lives_in_order (flat_map (lives_of_range f) rs)

-- those of the first list that are not in the second: a change from the old to the new loses the old ones without the new,
-- and gains the new ones without the old
abbrev pub without : List Live → List Live → List Live
without xs ys = filter (λ x. not (list_any (is_same_live x) ys)) xs

-- nothing that is lost is gained
abbrev pub ShareNoLive : List Live → List Live → Type 0
ShareNoLive lost gained = Every (λ l. list_any (is_same_live l) gained ≡ false) lost
