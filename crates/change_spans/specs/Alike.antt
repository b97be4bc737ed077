-- Whether a region differs in its place alone between two forests, and whether one comes to it, and on from it, as before.
use Rattle.std.specs.Prelude.{◌==◌, ◌&&◌, Bool, true, false, Option, Some, None}
use Rattle.mem_base.specs.declared.map.forests.Node.{Node}
use Rattle.mem_base.specs.lists.Booleans.{bool_eq}
use Rattle.mem_base.specs.map.Kinds.{target_of}
use Rattle.mem_base.specs.map.Touched.{is_same_kind, is_same_region}

-- the same but for id, container, offset, priority and placing, translations and ioeventfds
abbrev pub is_moved_alone : Node → Node → Bool
is_moved_alone n m =
    is_same_kind n.kind m.kind && (n.size == m.size)
    && (bool_eq n.enabled m.enabled && bool_eq n.readonly m.readonly && bool_eq n.nonvolatile m.nonvolatile && bool_eq n.romd m.romd
    && bool_eq n.unmergeable m.unmergeable && (n.log == m.log))

-- the region is in neither, or in both, and such there
abbrev pub moves_alone : Option Node → Option Node → Bool
moves_alone None None = true
moves_alone (Some n) (Some m) = is_moved_alone n m
moves_alone _ _ = false

-- one container and one target, if any
abbrev pub has_same_ways : Node → Node → Bool
has_same_ways n m = is_same_region n.parent m.parent && is_same_region (target_of n.kind) (target_of m.kind)

-- the region is in neither, or in both, and such there
abbrev pub keeps_ways : Option Node → Option Node → Bool
keeps_ways None None = true
keeps_ways (Some n) (Some m) = has_same_ways n m
keeps_ways _ _ = false
