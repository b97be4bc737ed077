-- The plan of an access: what it reaches, in order. That is memory, callbacks of devices, notifiers, marks, and nothing. It does not
-- speak of words, of registers or of the kinds of device, so it holds for every machine.
-- QEMU's core: `address_space_rw` of physmem.c, `memory_region_dispatch_read` and `memory_region_dispatch_write` of memory.c.
use Rattle.std.specs.Prelude.{ℕ, ◌-◌, ◌&&◌, Bool, true, false, not, if◌then◌else◌, List, [], ◌∷◌, ◌++◌, map, flat_map, length, replicate, Option, Some, None}
use Rattle.mem_base.specs.declared.map.ids.RegionId.{RegionId}
use Rattle.mem_base.specs.declared.map.ids.SpaceId.{SpaceId}
use Rattle.mem_base.specs.declared.map.forests.Node.{Node}
use Rattle.mem_base.specs.declared.map.forests.Forest.{Forest}
use Rattle.mem_base.specs.declared.map.spots.Spot.{Spot}
use Rattle.mem_base.specs.declared.map.kinds.Kind.{Kind}
use Rattle.mem_base.specs.declared.map.kinds.Kind.TheVariants.{Ram, Rom, RomDevice, Io}
use Rattle.mem_base.specs.declared.map.kinds.Client.{Client}
use Rattle.mem_base.specs.declared.map.kinds.Device.{Device}
use Rattle.mem_base.specs.declared.map.kinds.Ops.{Ops}
use Rattle.mem_base.specs.declared.map.ioevents.Ioevent.{Ioevent}
use Rattle.mem_base.specs.declared.access.accesses.TxResult.{TxResult}
use Rattle.mem_base.specs.declared.access.accesses.Target.{Target}
use Rattle.mem_base.specs.declared.access.accesses.Target.TheVariants.{Leaf, Unassigned}
use Rattle.mem_base.specs.declared.access.accesses.Piece.{Piece}
use Rattle.mem_base.specs.map.Region.{node_of}
use Rattle.mem_base.specs.lists.Runs.{Run}
use Rattle.mem_base.specs.access.Words.{number_of_bytes}
use Rattle.mem_base.specs.access.Pieces.{Callback, pieces, callbacks}
use Rattle.mem_base.specs.access.Trails.{trail_of, chunks}
use Rattle.mem_base.specs.access.Marks.{marks_of}
use Rattle.mem_base.specs.access.DeviceAccess.{notifier_of}
use Rattle.mem_base.specs.access.AccessSteps.{Transfer, reading, writing, is_write, length_of, read_length, part, tx}

-- what a callback is to do: to answer a number, of whose bytes in the order of addresses the first `n` are read, or to take
-- a number
pub data Request : Type 0 where
  answers : ℕ → Bool → Request  -- how many are read, and whether the highest byte comes first
  takes : ℕ → Request

-- a thing that an access reaches
pub data Reached : Type 0 where
  memory : RegionId → ℕ → Transfer → Reached  -- bytes of a region's memory, from an offset on
  callback : RegionId → ℕ → ℕ → Request → Reached  -- a callback of a region's device: its offset and its size
  notifier : ℕ → Reached  -- a notifier is set, in place of its device
  mark : RegionId → Client → ℕ → Reached  -- a page is marked for a client
  nothing : ℕ → TxResult → Reached  -- nothing answers: this number of bytes is read as 0, and the result is this

-- who answers

-- who answers at an address: memory from a spot on, a device from an offset in its region on (with its sizes and its
-- ioeventfds), or nobody
pub data Answerer : Type 0 where
  by_memory : Spot → Answerer
  by_device : RegionId → ℕ → Ops → List Ioevent → Answerer
  by_nobody : Answerer

-- memory that is read-only where it was found takes no write: `memory_access_is_direct` of the core
abbrev pub by_memory_unless : Bool → Spot → Answerer
by_memory_unless shut spot = if shut then by_nobody else by_memory spot

-- a region's device, from a spot in it on
abbrev pub by_device_of : Node → Device → Spot → Answerer
by_device_of n device spot = by_device spot.leaf spot.offset device.ops n.events

-- at a leaf, by its kind: a ROM device is read directly while its mode is on and is a device otherwise; a reservation
-- answers nothing, and neither does host memory, whose bytes the machine has not
abbrev pub answerer_at : Kind → Node → Spot → Bool → Answerer
answerer_at Ram n spot write = by_memory_unless (write && spot.attrs.readonly) spot
answerer_at Rom n spot write = by_memory_unless (write && spot.attrs.readonly) spot
answerer_at (RomDevice device) n spot write = if spot.attrs.romd && not write then by_memory spot else by_device_of n device spot
answerer_at (Io device) n spot write = by_device_of n device spot
answerer_at _ n spot write = by_nobody

-- who answers at a spot, by its region
abbrev pub answerer_in : Option Node → Spot → Bool → Answerer
answerer_in None spot write = by_nobody
answerer_in (Some n) spot write = answerer_at n.kind n spot write

-- who answers where a route ends: nobody where no region does
abbrev pub answerer : Forest → Bool → Target → Answerer
answerer f write Unassigned = by_nobody
answerer f write (Leaf spot) = answerer_in (node_of f.nodes spot.leaf) spot write

-- what is reached of each

-- nothing answers: a read gives zero bytes, and the result is a decode error
abbrev pub nobody : Transfer → List Reached
nobody transfer = nothing (read_length transfer) (tx false true) ∷ []

-- memory, and after a write the marks of its pages
abbrev pub in_memory : Spot → Transfer → List Reached
in_memory spot (reading n) = memory spot.leaf spot.offset (reading n) ∷ []
in_memory spot (writing bs) =
    memory spot.leaf spot.offset (writing bs) ∷ map (λ m. mark spot.leaf m.1 m.0) (marks_of spot.attrs.log spot.offset (length bs))

-- the request to a callback of `size` bytes for its part of a piece: a write has zero bytes after the transfer's
abbrev pub request : Bool → ℕ → Transfer → Request
request big size (reading n) = answers n big
request big size (writing bs) = takes (number_of_bytes (bs ++ replicate (size - length bs) 0) big)

-- the notifier that takes a piece of a write in place of the device; reads set none
abbrev pub notifier_for : Ops → List Ioevent → Piece → Transfer → Option ℕ
notifier_for ops events p (reading n) = None
notifier_for ops events p (writing bs) = notifier_of events p.offset p.size (number_of_bytes bs ops.big)

-- a notifier, where one takes the write, and otherwise the rest
abbrev pub unless_notified : Option ℕ → List Reached → List Reached
unless_notified None otherwise = otherwise
unless_notified (Some number) otherwise = notifier number ∷ []

-- a callback, with its part of the transfer
abbrev pub in_callback : RegionId → Ops → Transfer → Callback → Reached
in_callback region ops transfer c = callback region c.offset c.size (request ops.big c.size (part c.skipped c.bytes transfer))

-- one piece, with its part of the transfer: `memory_region_access_valid`, `memory_region_dispatch_write_eventfds` and
-- `access_with_adjusted_size` of the core
abbrev pub in_piece : RegionId → Ops → List Ioevent → Piece → Transfer → List Reached
in_piece region ops events p transfer =
    if p.valid then unless_notified (notifier_for ops events p transfer) (map (in_callback region ops transfer) (callbacks ops p))
    else nobody transfer

-- all pieces of the bytes of a device from an offset on
abbrev pub in_device : RegionId → ℕ → Ops → List Ioevent → Transfer → List Reached
in_device region offset ops events transfer =
    flat_map (λ p. in_piece region ops events p (part (p.offset - offset) p.size transfer)) (pieces ops offset (length_of transfer))

-- what a transfer reaches, by who answers it
abbrev pub reached : Answerer → Transfer → List Reached
reached (by_memory spot) transfer = in_memory spot transfer
reached (by_device region offset ops events) transfer = in_device region offset ops events transfer
reached by_nobody transfer = nobody transfer

-- one chunk of an access that begins at an address
abbrev pub in_chunk : Forest → SpaceId → ℕ → Transfer → Run → List Reached
in_chunk f s a transfer r =
    reached (answerer f (is_write transfer) (trail_of f (is_write transfer) s r.start).target) (part (r.start - a) r.length transfer)

-- an access to a space at an address
abbrev pub plan : Forest → SpaceId → ℕ → Transfer → List Reached
plan f s a transfer = flat_map (in_chunk f s a transfer) (chunks f (is_write transfer) s a (length_of transfer))
