-- What a handle's machine shows: its current generation.
use Rattle.std.specs.Prelude.{◌≡◌, ℕ, List, length, true, false, Option, Some, None, slice_get}
use Rattle.mem_base.specs.declared.map.forests.Forest.{Forest}
use Rattle.mem_base.specs.declared.map.forests.Node.{Node}
use Rattle.mem_base.specs.declared.map.kinds.Kind.{Kind}
use Rattle.mem_base.specs.declared.map.kinds.Kind.TheVariants as kinds
use Rattle.mem_base.specs.declared.map.ids.SpaceId.{SpaceId}
use Rattle.mem_base.specs.declared.map.ids.RegionId.{RegionId}
use Rattle.mem_base.specs.declared.map.spots.Spot.{Spot}
use Rattle.mem_base.specs.declared.map.refusals.Refusal.TheVariants as refusal
use Rattle.mem_base.specs.declared.map.refusals.What.TheVariants as what
use Rattle.mem_base.specs.declared.views.flat.FlatRange.{FlatRange}
use Rattle.mem_base.specs.map.Region.{node_of}
use Rattle.mem_base.specs.map.Search.{path_at, root_of}
use Rattle.mem_base.specs.views.Flattened.{view_of}
use Rattle.mem_base.specs.views.View.{shown}
use Rattle.mem_base.specs.machine.Composites.{forest_at}
use Rattle.mem_base.specs.machine.Generations.{generation_of}
use Rattle.mem_base.specs.machine.World.{World}
use Rattle.libvobrekan.specs.declared.answers.Answer.{Answer}
use Rattle.libvobrekan.specs.declared.shown.FoundNumbers.{FoundNumbers}
use Rattle.libvobrekan.specs.declared.shown.RangeNumbers.{RangeNumbers}
use Rattle.flat_lookup.specs.Atlases.{run_end}
use Rattle.libvobrekan.specs.Answers.{code_memory, done, no_machine, refusal_told}
use Rattle.libvobrekan.specs.Buffers.{put_regions}

-- the forest of the current generation
abbrev pub current_forest : World → Forest
current_forest w = forest_at (generation_of w.writer.generations w.writer.generations.current)

-- a range of a view, as numbers
abbrev pub range_told : FlatRange → RangeNumbers
range_told r = record {
  start = r.start;
  last = r.last;
  offset = r.offset;
  region = r.leaf.0;
  log = r.attrs.log;
  readonly = r.attrs.readonly;
  nonvolatile = r.attrs.nonvolatile;
  romd = r.attrs.romd;
  unmergeable = r.attrs.unmergeable;
}

-- what stands in a place once something was put there, if there was something
abbrev pub put_where : {A B : Type 0} → (A → B) → Option A → B → B
put_where tell None before = before
put_where tell (Some x) before = tell x

-- the range at an index of the view of a space of a forest, in the generation of this number; a space that is not there is refused
abbrev pub IsRange : Option RegionId → Forest → ℕ → SpaceId → ℕ → RangeNumbers → Answer → RangeNumbers → Type 0
IsRange None f number space index before answer out = (answer ≡ refusal_told (refusal.Unknown (what.Space space))) × (out ≡ before)
IsRange (Some root) f number space index before answer out =
    (answer ≡ done (length (view_of f space)) number) × (out ≡ put_where range_told (slice_get (view_of f space) index) before)

-- the same of the current generation of a handle's machine
abbrev pub ShowsRange : Option World → SpaceId → ℕ → RangeNumbers → Answer → RangeNumbers → Type 0
ShowsRange None space index before answer out = (answer ≡ no_machine) × (out ≡ before)
ShowsRange (Some w) space index before answer out =
    IsRange (root_of (current_forest w) space) (current_forest w) w.writer.generations.current space index before answer out

-- the kinds, as numbers
abbrev pub number_of_kind : Kind → ℕ
number_of_kind kinds.Container = 0
number_of_kind kinds.Ram = 1
number_of_kind kinds.Rom = 2
number_of_kind (kinds.RomDevice device) = 3
number_of_kind (kinds.Io device) = 4
number_of_kind kinds.Iommu = 5
number_of_kind (kinds.Alias target offset) = 6
number_of_kind kinds.Reserve = 7
number_of_kind kinds.Host = 8

-- the kind of a region that is there; 0 where it is not
abbrev pub number_of_node : Option Node → ℕ
number_of_node None = 0
number_of_node (Some node) = number_of_kind node.kind

-- what is found at an address, as numbers: the last address that is answered alike, and the byte that answers, if there is one
abbrev pub found_told : Forest → ℕ → Option Spot → FoundNumbers
found_told f last None = record {
  last = last;
  offset = 0;
  region = 0;
  kind = 0;
  log = 0;
  readonly = false;
  nonvolatile = false;
  romd = false;
  unmergeable = false;
  is_there = false;
}
found_told f last (Some spot) = record {
  last = last;
  offset = spot.offset;
  region = spot.leaf.0;
  kind = number_of_node (node_of f.nodes spot.leaf);
  log = spot.attrs.log;
  readonly = spot.attrs.readonly;
  nonvolatile = spot.attrs.nonvolatile;
  romd = spot.attrs.romd;
  unmergeable = spot.attrs.unmergeable;
  is_there = true;
}

-- what a space of a forest has at an address, in the generation of this number; a space that is not there is refused
abbrev pub IsFound : Option RegionId → Forest → ℕ → SpaceId → ℕ → FoundNumbers → Answer → FoundNumbers → Type 0
IsFound None f number space addr before answer out = (answer ≡ refusal_told (refusal.Unknown (what.Space space))) × (out ≡ before)
IsFound (Some root) f number space addr before answer out =
    (answer ≡ done 0 number) × (out ≡ found_told f (run_end (view_of f space) addr) (shown (view_of f space) addr))

-- the same of the current generation of a handle's machine
abbrev pub Finds : Option World → SpaceId → ℕ → FoundNumbers → Answer → FoundNumbers → Type 0
Finds None space addr before answer out = (answer ≡ no_machine) × (out ≡ before)
Finds (Some w) space addr before answer out =
    IsFound (root_of (current_forest w) space) (current_forest w) w.writer.generations.current space addr before answer out

-- the path on which an address is found in a space of a forest, in a buffer, in the generation of this number; a space that is not there is
-- refused, and where memory runs out the buffer is as it was
abbrev pub IsPath : Option RegionId → Forest → ℕ → SpaceId → ℕ → List ℕ → Answer → List ℕ → Type 0
IsPath None f number space addr before answer out = (answer ≡ refusal_told (refusal.Unknown (what.Space space))) × (out ≡ before)
IsPath (Some root) f number space addr before answer out =
    ((answer.code ≡ code_memory → ⊥)
    → (answer ≡ done (length (path_at f space addr)) number) × (out ≡ put_regions (path_at f space addr) before))
    × (answer.code ≡ code_memory → out ≡ before)

-- the same of the current generation of a handle's machine
abbrev pub ShowsPath : Option World → SpaceId → ℕ → List ℕ → Answer → List ℕ → Type 0
ShowsPath None space addr before answer out = (answer ≡ no_machine) × (out ≡ before)
ShowsPath (Some w) space addr before answer out =
    IsPath (root_of (current_forest w) space) (current_forest w) w.writer.generations.current space addr before answer out
