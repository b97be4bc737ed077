-- A whole access: its chunks, and what is done at the leaf of each.
-- QEMU's manual, "Load and Store APIs", and QEMU's core, `address_space_rw`. That all chunks,
-- translations and pieces go by one forest is this project's own rule.
use Rattle.std.specs.Prelude.{ℕ, ◌-◌, ◌&&◌, not, if◌then◌else◌, List, flat_map}
use Rattle.mem_base.specs.declared.map.ids.SpaceId.{SpaceId}
use Rattle.mem_base.specs.declared.map.forests.Node.{Node}
use Rattle.mem_base.specs.declared.map.forests.Forest.{Forest}
use Rattle.mem_base.specs.declared.map.spots.Spot.{Spot}
use Rattle.mem_base.specs.declared.map.kinds.Kind.{Kind}
use Rattle.mem_base.specs.declared.map.kinds.Kind.TheVariants.{Ram, Rom, RomDevice, Io}
use Rattle.mem_base.specs.declared.access.accesses.Target.{Target}
use Rattle.mem_base.specs.declared.access.accesses.Target.TheVariants.{Leaf, Unassigned}
use Rattle.mem_base.specs.access.Places.{data_words}
use Rattle.mem_base.specs.lists.Runs.{Run}
use Rattle.mem_base.specs.access.Trails.{trail_of, chunks}
use Rattle.mem_base.specs.access.AccessSteps.{Transfer, is_write, length_of, part, AccessStep, unanswered}
use Rattle.mem_base.specs.access.MemoryAccess.{in_memory}
use Rattle.mem_base.specs.access.DeviceAccess.{in_device}
use Rattle.mem_base.specs.map.Region.{of_region}

-- at a leaf, by its kind: a ROM device is read directly while its mode is on and is a device otherwise; a
-- reservation answers nothing, and neither does host memory, whose bytes the machine has not
abbrev pub at_leaf : Kind → Node → Spot → Transfer → List AccessStep
at_leaf Ram n spot transfer = in_memory spot transfer
at_leaf Rom n spot transfer = in_memory spot transfer
at_leaf (RomDevice device) n spot transfer =
    if spot.attrs.romd && not (is_write transfer) then in_memory spot transfer
    else in_device n device (data_words n.size) spot.offset (length_of transfer) transfer
at_leaf (Io device) n spot transfer = in_device n device 0 spot.offset (length_of transfer) transfer
at_leaf _ n spot transfer = unanswered transfer

-- where the way of an address ends: nothing answers where it ends in no leaf
abbrev pub at_target : Forest → Target → Transfer → List AccessStep
at_target f Unassigned transfer = unanswered transfer
at_target f (Leaf spot) transfer = of_region f.nodes spot.leaf (unanswered transfer) (λ n. at_leaf n.kind n spot transfer)

-- one chunk of an access that begins at an address
abbrev pub in_chunk : Forest → SpaceId → ℕ → Transfer → Run → List AccessStep
in_chunk f s a transfer r = at_target f (trail_of f (is_write transfer) s r.start).target (part (r.start - a) r.length transfer)

-- an access to a space at an address
abbrev pub access : Forest → SpaceId → ℕ → Transfer → List AccessStep
access f s a transfer = flat_map (in_chunk f s a transfer) (chunks f (is_write transfer) s a (length_of transfer))
