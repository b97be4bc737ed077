-- What a leaf is like where it is reached: its flags and its logging mask.
-- QEMU's core, `render_memory_region`: read-only, non-volatile and unmergeable hold of all that is reached through a region
-- that has them; the mode of a ROM device and the logging mask are the leaf's own.
use Rattle.std.specs.Prelude.{Bool, ◌&&◌, ◌||◌, ◌==◌}
use Rattle.mem_base.specs.declared.map.forests.Node.{Node}
use Rattle.mem_base.specs.declared.map.spots.Attrs.{Attrs}
use Rattle.mem_base.specs.lists.Booleans.{bool_eq}

-- the attributes of what is found inside a region, once the region is passed
abbrev pub passing : Node → Attrs → Attrs
passing n x = record {
  readonly = n.readonly || x.readonly;
  nonvolatile = n.nonvolatile || x.nonvolatile;
  romd = x.romd;
  unmergeable = n.unmergeable || x.unmergeable;
  log = x.log;
}

-- all but the logging mask agrees
abbrev pub is_same_flags : Attrs → Attrs → Bool
is_same_flags x y =
    bool_eq x.readonly y.readonly && bool_eq x.nonvolatile y.nonvolatile && bool_eq x.romd y.romd && bool_eq x.unmergeable y.unmergeable

-- all agrees
abbrev pub same_attrs : Attrs → Attrs → Bool
same_attrs x y = is_same_flags x y && (x.log == y.log)
