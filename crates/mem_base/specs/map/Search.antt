-- The search for the region that answers an address.
-- QEMU's manual, "The memory API", "Visibility": the children of a region are tried in order; one that does not
-- hold the address is discarded; a leaf ends the search; a container is searched at the address less the
-- child's offset, an alias goes on at its target; where the inner search finds nothing the next child is tried;
-- where no child answers, a region that is no pure container answers itself. That migration's bit is set while global
-- logging is on is QEMU's core, `memory_region_get_dirty_log_mask`. That the search also tells its path, and goes down at
-- most 32 regions, is this project's own.
use Rattle.std.specs.Prelude.{◌≡◌, ◌≤◌, length, ℕ, zero, suc, ◌+◌, ◌-◌, Bool, true, false, ◌==◌, ◌&&◌, nat_lt, nat_le, if◌then◌else◌, List}
use Rattle.std.specs.Prelude.{[], ◌∷◌, Option, Some, None, option_map, option_and_then, find, bit_or}
use Rattle.std.specs.Option.{option_or}
use Rattle.mem_base.specs.declared.map.ids.RegionId.{RegionId}
use Rattle.mem_base.specs.declared.map.ids.SpaceId.{SpaceId}
use Rattle.mem_base.specs.declared.map.forests.Node.{Node}
use Rattle.mem_base.specs.declared.map.forests.Forest.{Forest}
use Rattle.mem_base.specs.declared.map.spots.Spot.{Spot}
use Rattle.mem_base.specs.declared.map.kinds.Kind.{Kind}
use Rattle.mem_base.specs.declared.map.kinds.Client.TheVariants.{Migration}
use Rattle.mem_base.specs.declared.map.kinds.Kind.TheVariants.{Container, Ram, Rom, RomDevice, Io, Iommu, Alias, Reserve, Host}
use Rattle.mem_base.specs.map.Limits.{most_depth}
use Rattle.mem_base.specs.map.Attributes.{passing}
use Rattle.mem_base.specs.map.Clients.{bit_of}
use Rattle.mem_base.specs.map.Region.{node_of}
use Rattle.mem_base.specs.map.Order.{children_of}

-- what a search finds: a spot, and the path to it, which is the regions that were passed, from the first to the leaf
abbrev pub Found : Type 0
Found = Spot × List RegionId

-- a search from a region at an offset in it: what it finds, if anything
abbrev pub Search : Type 0
Search = RegionId → ℕ → Option Found

-- a spot inside a region, with the flags that passing the region adds
abbrev pub flagged : Node → Spot → Spot
flagged n s = record { leaf = s.leaf; offset = s.offset; attrs = passing n s.attrs }

-- what is found inside a region has the region's flags, and its path begins with the region
abbrev pub passed : Node → Found → Found
passed n x = (flagged n x.0, n.id ∷ x.1)

-- the leaf's logging mask, with the bit of migration while global logging is on
abbrev pub log_of : Bool → Node → ℕ
log_of global n = if global then bit_or n.log (bit_of Migration) else n.log

-- a region that answers with its own contents, at an offset in it: its flags, and the region itself on the path, are
-- added where the region is passed
abbrev pub own : Node → ℕ → Bool → Bool → ℕ → Option Found
own n a readonly romd log =
    Some (record { leaf = n.id; offset = a; attrs = record { readonly = readonly; nonvolatile = false; romd = romd; unmergeable = false; log = log } }, [])

-- what a region itself answers where no child does: a pure container and an alias have nothing of their own, a
-- ROM is read-only, and global logging concerns all memory
abbrev pub itself : Bool → Kind → Node → ℕ → Option Found
itself global Container n a = None
itself global Ram n a = own n a false n.romd (log_of global n)
itself global Rom n a = own n a true n.romd (log_of global n)
itself global (RomDevice device) n a = own n a false n.romd (log_of global n)
itself global (Io device) n a = own n a false n.romd n.log
itself global Iommu n a = own n a false n.romd n.log
itself global (Alias target offset) n a = None
itself global Reserve n a = own n a false n.romd n.log
itself global Host n a = own n a false n.romd (log_of global n)

-- the first child that holds the offset and in which something is found
abbrev pub first_of_children : Search → List Node → ℕ → Option Found
first_of_children below [] a = None
first_of_children below (c ∷ cs) a =
    option_or (if nat_le c.offset a then below c.id (a - c.offset) else None) (first_of_children below cs a)

-- an alias goes on at its target; any other region asks its children and then itself
abbrev pub inside : Forest → Search → Kind → Node → ℕ → Option Found
inside f below (Alias target offset) n a = below target (a + offset)
inside f below _ n a = option_or (first_of_children below (children_of f.nodes n.id) a) (itself f.global n.kind n a)

-- one step of the search, over the search that goes on below: a region that is disabled, or that the offset
-- lies past, is left out
abbrev pub at_node : Forest → Search → Node → ℕ → Option Found
at_node f below n a =
    if n.enabled && nat_lt a n.size then option_map (passed n) (inside f below n.kind n a) else None

-- the search from a region that goes down at most `depth` regions
unfoldable pub found_in : Forest → ℕ → Search
found_in f zero r a = None
found_in f (suc depth) r a = option_and_then (λ n. at_node f (found_in f depth) n a) (node_of f.nodes r)

-- the pair is this space with its root
abbrev pub is_space : SpaceId → SpaceId × RegionId → Bool
is_space s p = p.0.0 == s.0

-- the root of a space
abbrev pub root_of : Forest → SpaceId → Option RegionId
root_of f s = option_map (λ p. p.1) (find (is_space s) f.spaces)

-- the search from the root of a space, from address 0 of the root on, whatever offset the root has in a
-- container: nothing where there is no such space
abbrev pub found_at : Forest → SpaceId → ℕ → Option Found
found_at f s a = option_and_then (λ r. found_in f most_depth r a) (root_of f s)

-- the spot alone
abbrev pub spot_of : Option Found → Option Spot
spot_of x = option_map (λ p. p.0) x

-- the path alone: no region where nothing is found
abbrev pub path_of : Option Found → List RegionId
path_of None = []
path_of (Some x) = x.1

-- the spot that the search finds at an address of a space
abbrev pub look : Forest → SpaceId → ℕ → Option Spot
look f s a = spot_of (found_at f s a)

-- the path on which it is found
abbrev pub path_at : Forest → SpaceId → ℕ → List RegionId
path_at f s a = path_of (found_at f s a)

-- the last of these regions is this one
abbrev pub EndsAt : RegionId → List RegionId → Type 0
EndsAt leaf [] = ⊥
EndsAt leaf (r ∷ []) = r ≡ leaf
EndsAt leaf (r ∷ q ∷ rs) = EndsAt leaf (q ∷ rs)

-- what is found, if anything, has a path of at most `most` regions, which ends at the leaf
abbrev pub IsPathToLeaf : ℕ → Option Found → Type 0
IsPathToLeaf most None = Unit {0}
IsPathToLeaf most (Some x) = (length x.1 ≤ most) × EndsAt x.0.leaf x.1
