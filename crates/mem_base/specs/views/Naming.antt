-- Which regions a forest names: the leaves of its views. Nothing reaches the others, so they may be released once they
-- are dropped. This project's own rule, in place of the reference counts of QEMU's core.
use Rattle.std.specs.Prelude.{Bool, ◌==◌, nat_lt, List, length}
use Rattle.std.specs.List.{list_any}
use Rattle.mem_base.specs.declared.map.ids.RegionId.{RegionId}
use Rattle.mem_base.specs.declared.views.flat.FlatRange.{FlatRange}
use Rattle.mem_base.specs.declared.map.forests.Forest.{Forest}
use Rattle.mem_base.specs.views.Flattened.{view_of}
use Rattle.mem_base.specs.views.LiveEvents.{events_of}

-- some range has this leaf
abbrev pub has_leaf : RegionId → List FlatRange → Bool
has_leaf region rs = list_any (λ r. r.leaf.0 == region.0) rs

-- some address of some space has the region as its leaf
abbrev pub names : Forest → RegionId → Bool
names f region = list_any (λ p. has_leaf region (view_of f p.0)) f.spaces

-- a region has an ioeventfd
abbrev pub has_events : Forest → RegionId → Bool
has_events f region = nat_lt 0 (length (events_of f region))

-- some leaf of some space has an ioeventfd
abbrev pub shows_events : Forest → Bool
shows_events f = list_any (λ p. list_any (λ r. has_events f r.leaf) (view_of f p.0)) f.spaces
