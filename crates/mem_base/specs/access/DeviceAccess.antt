-- An access to a device: its pieces, the ioeventfds that take a write, and the callbacks on registers.
-- QEMU's core, `access_with_adjusted_size` and `memory_region_dispatch_write_eventfds`. The four devices, what a
-- callback that is wider than its piece reads and writes, and that each piece of a write sets a notifier by itself are this
-- project's own rules.
use Rattle.std.specs.Prelude.{◌≡◌, ℕ, ◌+◌, ◌-◌, ◌*◌, ◌/◌, ◌%◌, ◌^◌, Bool, true, false, ◌==◌, ◌&&◌, ◌||◌, not, if◌then◌else◌, List, [], ◌∷◌, unwrap_or}
use Rattle.std.specs.Prelude.{◌++◌, map, take, length, replicate, flat_map, Option, Some, None, option_map, find}
use Rattle.mem_base.specs.declared.map.ids.RegionId.{RegionId}
use Rattle.mem_base.specs.declared.map.forests.Node.{Node}
use Rattle.mem_base.specs.declared.map.kinds.Device.{Device}
use Rattle.mem_base.specs.declared.map.kinds.DeviceKind.{DeviceKind}
use Rattle.mem_base.specs.declared.map.kinds.DeviceKind.TheVariants.{Latch, Count, Bell, Fault}
use Rattle.mem_base.specs.declared.map.ioevents.Ioevent.{Ioevent}
use Rattle.mem_base.specs.declared.access.accesses.Piece.{Piece}
use Rattle.mem_base.specs.declared.access.accesses.DeviceStep.{DeviceStep}
use Rattle.mem_base.specs.declared.access.accesses.DeviceStep.TheVariants.{Step, Error}
use Rattle.mem_base.specs.declared.access.cells.WordStep.{WordStep}
use Rattle.mem_base.specs.declared.access.cells.WordStep.TheVariants.{Load, Replace, AddOne, Or, Take}
use Rattle.mem_base.specs.map.Limits.{word_size}
use Rattle.mem_base.specs.access.Words.{number_of_bytes, in_word, bytes_from, bytes_of}
use Rattle.mem_base.specs.access.Cells.{cell, notifier_cell}
use Rattle.mem_base.specs.access.Pieces.{pieces, callbacks}
use Rattle.mem_base.specs.access.AccessSteps.{Transfer, reading, writing, read_length, part, ShownPart, shown_part, shown_bytes}
use Rattle.mem_base.specs.access.AccessSteps.{nothing_shown, AccessStep, blank, steps, tx, unanswered}

-- a write of a number of `size` bytes: only the bytes that lie in the register are written
abbrev pub stores : ℕ → ℕ → ℕ → WordStep
stores offset size value =
    let first = offset % word_size in Replace first (in_word first size) (value % (256 ^ (in_word first size)))

-- a write that sets the bits of a number of `size` bytes: bits past the register are left out
abbrev pub sets : ℕ → ℕ → ℕ → WordStep
sets offset size value = Or (value % (256 ^ size) * 256 ^ (offset % word_size) % (2 ^ 64))

-- the word step of a callback of `size` bytes at an offset: a read, or a write of a number
abbrev pub word_step : DeviceKind → ℕ → ℕ → Option ℕ → Option WordStep
word_step Latch offset size None = Some Load
word_step Latch offset size (Some value) = Some (stores offset size value)
word_step Count offset size None = Some AddOne
word_step Count offset size (Some value) = Some (stores offset size value)
word_step Bell offset size None = Some Take
word_step Bell offset size (Some value) = Some (sets offset size value)
word_step Fault offset size write = None

-- the register of an offset
abbrev pub register_of : Device → ℕ → ℕ
register_of device offset = offset / word_size % device.regs

-- what a callback does: its word step on the register of its offset, or an error
abbrev pub step_of : Device → ℕ → ℕ → Option ℕ → DeviceStep
step_of device offset size write = unwrap_or (option_map (λ step. Step (register_of device offset) step) (word_step device.kind offset size write)) Error

-- the number that a callback of `size` bytes reads, by the register's value before it
abbrev pub reply_of : ℕ → ℕ → ℕ → ℕ
reply_of offset size old = bytes_from old (offset % word_size) size

-- the number that a callback of `size` bytes writes: the transfer's bytes, and zero bytes after them
abbrev pub value_of : Bool → ℕ → Transfer → Option ℕ
value_of big size (reading n) = None
value_of big size (writing bs) = Some (number_of_bytes (bs ++ replicate (size - length bs) 0) big)

-- of the number that a callback reads, the first bytes of the transfer, in the order of addresses
abbrev pub shown_by : Bool → ℕ → ℕ → Transfer → ShownPart
shown_by big offset size (reading n) = shown_part (offset % word_size) size big n
shown_by big offset size (writing bs) = nothing_shown

-- so what a read shows are the bytes of what the callback replies
abbrev pub RepliesAreShown : Type 0
RepliesAreShown = (big : Bool) (offset size n old : ℕ) →
    shown_bytes (shown_by big offset size (reading n)) old ≡ take n (bytes_of (reply_of offset size old) size big)

-- a callback's step as a step on the cell of its register; register 0 is the word `base` of the region, after its
-- data
abbrev pub on_device : RegionId → ℕ → DeviceStep → ShownPart → Transfer → AccessStep
on_device region base Error x transfer = blank (read_length transfer) (tx true false)
on_device region base (Step reg step) x transfer = steps (cell region (base + reg)) step x

-- one callback at an offset, of `size` bytes, for its part of a piece
abbrev pub by_callback : Node → Device → ℕ → ℕ → ℕ → Transfer → AccessStep
by_callback n device base offset size transfer =
    on_device n.id base (step_of device offset size (value_of device.ops.big size transfer)) (shown_by device.ops.big offset size transfer) transfer

-- a write of `size` bytes with this value sets this notifier: an ioeventfd that is not matched takes any value
abbrev pub fits : ℕ → ℕ → ℕ → Ioevent → Bool
fits offset size value e = (e.offset == offset) && (e.size == size) && (not e.matched || (e.value == value))

-- the notifier of the first ioeventfd, in their order, that fits
abbrev pub notifier_of : List Ioevent → ℕ → ℕ → ℕ → Option ℕ
notifier_of events offset size value = option_map (λ e. e.number) (find (fits offset size value) events)

-- reads set no notifier
abbrev pub notifier_for : Node → Device → Piece → Transfer → Option ℕ
notifier_for n device p (reading all) = None
notifier_for n device p (writing bs) = notifier_of n.events p.offset p.size (number_of_bytes bs device.ops.big)

-- a notifier that is set takes the write in place of the device
abbrev pub unless_notified : Option ℕ → List AccessStep → List AccessStep
unless_notified number otherwise = unwrap_or (option_map (λ n. steps (notifier_cell n) (Or 1) nothing_shown ∷ []) number) otherwise

-- all callbacks of a piece, each with its part of the piece's transfer
abbrev pub by_callbacks : Node → Device → ℕ → Piece → Transfer → List AccessStep
by_callbacks n device base p transfer =
    map (λ c. by_callback n device base c.offset c.size (part c.skipped c.bytes transfer)) (callbacks device.ops p)

-- one piece, with its part of the transfer
abbrev pub in_piece : Node → Device → ℕ → Piece → Transfer → List AccessStep
in_piece n device base p transfer =
    if p.valid then unless_notified (notifier_for n device p transfer) (by_callbacks n device base p transfer)
    else unanswered transfer

-- a transfer on the bytes of a device from an offset on; register 0 is the word `base` of the region
abbrev pub in_device : Node → Device → ℕ → ℕ → ℕ → Transfer → List AccessStep
in_device n device base offset bytes transfer =
    flat_map (λ p. in_piece n device base p (part (p.offset - offset) p.size transfer)) (pieces device.ops offset bytes)
