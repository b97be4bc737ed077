-- The text that `{}` writes of ids, kinds, answers and refusals: what a program writes in its log.
-- This project's own rule. Numbers are decimal; addresses and offsets are lower-case hexadecimal after `0x`.
use Rattle.std.specs.Prelude.{ℕ, ◌==◌, Bool, false, if◌then◌else◌, List, [], ◌++◌, codes, decimal}
use Rattle.std.specs.Fmt.{digits}
use Rattle.mem_base.specs.declared.map.ids.RegionId.{RegionId}
use Rattle.mem_base.specs.declared.map.ids.SpaceId.{SpaceId}
use Rattle.mem_base.specs.declared.map.ids.ListenerId.{ListenerId}
use Rattle.mem_base.specs.declared.map.ids.WatcherId.{WatcherId}
use Rattle.mem_base.specs.map.PassIds.{PassId}
use Rattle.mem_base.specs.declared.map.kinds.Client.{Client}
use Rattle.mem_base.specs.declared.map.kinds.Client.TheVariants.{Vga, Code, Migration}
use Rattle.mem_base.specs.declared.map.kinds.DeviceKind.{DeviceKind}
use Rattle.mem_base.specs.declared.map.kinds.DeviceKind.TheVariants.{Latch, Count, Bell, Fault}
use Rattle.mem_base.specs.declared.map.kinds.Kind.{Kind}
use Rattle.mem_base.specs.declared.map.kinds.Kind.TheVariants as kind
use Rattle.mem_base.specs.declared.map.translations.Perm.{Perm}
use Rattle.mem_base.specs.declared.map.translations.Perm.TheVariants.{Nothing, Read, Write, Both}
use Rattle.mem_base.specs.declared.map.spots.Attrs.{Attrs}
use Rattle.mem_base.specs.declared.map.spots.Spot.{Spot}
use Rattle.mem_base.specs.declared.map.calls.Applied.{Applied}
use Rattle.mem_base.specs.declared.map.calls.Applied.TheVariants.{Made, Done}
use Rattle.mem_base.specs.declared.map.refusals.What.{What}
use Rattle.mem_base.specs.declared.map.refusals.What.TheVariants as what
use Rattle.mem_base.specs.declared.map.refusals.User.{User}
use Rattle.mem_base.specs.declared.map.refusals.User.TheVariants as user
use Rattle.mem_base.specs.declared.map.refusals.Which.{Which}
use Rattle.mem_base.specs.declared.map.refusals.Which.TheVariants as which
use Rattle.mem_base.specs.declared.map.refusals.Refusal.{Refusal}
use Rattle.mem_base.specs.declared.map.refusals.Refusal.TheVariants as refusal
use Rattle.mem_base.specs.declared.access.accesses.TxResult.{TxResult}
use Rattle.mem_base.specs.map.Limits.{most_depth, most_nested, most_weight}

-- `0x` and hexadecimal digits without leading zeros
abbrev pub text_of_offset : ℕ → List ℕ
text_of_offset n = codes "0x" ++ digits 16 false n

-- Ids

-- a region, by its number
abbrev pub text_of_region : RegionId → List ℕ
text_of_region region = codes "region " ++ decimal region.0

-- an address space, by its number
abbrev pub text_of_space : SpaceId → List ℕ
text_of_space space = codes "address space " ++ decimal space.0

-- a listener, by its number
abbrev pub text_of_listener : ListenerId → List ℕ
text_of_listener listener = codes "listener " ++ decimal listener.0

-- a watcher, by its number
abbrev pub text_of_watcher : WatcherId → List ℕ
text_of_watcher watcher = codes "watcher " ++ decimal watcher.0

-- a pass, by its number
abbrev pub text_of_pass : PassId → List ℕ
text_of_pass pass = codes "pass " ++ decimal pass.0

-- a notifier, by its number
abbrev pub text_of_notifier : ℕ → List ℕ
text_of_notifier notifier = codes "notifier " ++ decimal notifier

-- What regions are

-- a client of a logging mask
abbrev pub text_of_client : Client → List ℕ
text_of_client Vga = codes "VGA"
text_of_client Code = codes "code"
text_of_client Migration = codes "migration"

-- a kind of device
abbrev pub text_of_device_kind : DeviceKind → List ℕ
text_of_device_kind Latch = codes "latch"
text_of_device_kind Count = codes "counter"
text_of_device_kind Bell = codes "bell"
text_of_device_kind Fault = codes "fault"

-- a device is told by its kind, the window of an alias by its target and the offset in it
abbrev pub text_of_kind : Kind → List ℕ
text_of_kind kind.Container = codes "container"
text_of_kind kind.Ram = codes "RAM"
text_of_kind kind.Rom = codes "ROM"
text_of_kind (kind.RomDevice device) = codes "ROM device (" ++ (text_of_device_kind device.kind ++ codes ")")
text_of_kind (kind.Io device) = codes "I/O device (" ++ (text_of_device_kind device.kind ++ codes ")")
text_of_kind kind.Iommu = codes "IOMMU"
text_of_kind (kind.Alias target offset) = codes "alias of " ++ (text_of_region target ++ (codes " from " ++ text_of_offset offset))
text_of_kind kind.Reserve = codes "reservation"
text_of_kind kind.Host = codes "host memory"

-- what a translation permits
abbrev pub text_of_perm : Perm → List ℕ
text_of_perm Nothing = codes "no access"
text_of_perm Read = codes "read"
text_of_perm Write = codes "write"
text_of_perm Both = codes "read and write"

-- What a search finds

-- a text that is told only where something holds
abbrev pub text_where : Bool → List ℕ → List ℕ
text_where holds text = if holds then text else []

-- a logging mask, which is told only where some client logs
abbrev pub text_of_log : ℕ → List ℕ
text_of_log log = if log == 0 then [] else codes ", logging mask " ++ decimal log

-- whether it takes writes, and then whatever else holds of it, after commas
abbrev pub text_of_attrs : Attrs → List ℕ
text_of_attrs attrs =
    (if attrs.readonly then codes "read-only" else codes "read-write")
    ++ (text_where attrs.nonvolatile (codes ", non-volatile") ++ (text_where attrs.romd (codes ", ROM device mode")
    ++ (text_where attrs.unmergeable (codes ", unmergeable") ++ text_of_log attrs.log)))

-- a spot: its region, the offset in it, and its attributes
abbrev pub text_of_spot : Spot → List ℕ
text_of_spot spot =
    text_of_region spot.leaf ++ (codes " at " ++ (text_of_offset spot.offset ++ (codes " (" ++ (text_of_attrs spot.attrs ++ codes ")"))))

-- Answers

-- what an accepted call answers
abbrev pub text_of_applied : Applied → List ℕ
text_of_applied (Made region) = codes "made " ++ text_of_region region
text_of_applied Done = codes "done"

-- QEMU's `MEMTX_OK`, `MEMTX_ERROR` and `MEMTX_DECODE_ERROR`
abbrev pub text_of_result : TxResult → List ℕ
text_of_result result =
    if result.error then (if result.decode then codes "device error and decode error" else codes "device error")
    else (if result.decode then codes "decode error" else codes "ok")

-- Refusals

-- what a call names and does not find, or finds taken
abbrev pub text_of_what : What → List ℕ
text_of_what (what.Region region) = text_of_region region
text_of_what (what.Space space) = text_of_space space
text_of_what (what.Listener listener) = text_of_listener listener
text_of_what (what.Watcher watcher) = text_of_watcher watcher
text_of_what (what.Entry iova) = codes "translation at " ++ text_of_offset iova
text_of_what (what.Event offset) = codes "ioeventfd at " ++ text_of_offset offset

-- what still uses a region
abbrev pub text_of_user : User → List ℕ
text_of_user (user.Region region) = text_of_region region
text_of_user (user.Space space) = text_of_space space

-- what is counted
abbrev pub text_of_which : Which → List ℕ
text_of_which which.Regions = codes "regions"
text_of_which which.Made = codes "regions made"
text_of_which which.Spaces = codes "address spaces"
text_of_which which.Listeners = codes "listeners"
text_of_which which.Entries = codes "translations of a region"
text_of_which which.Events = codes "ioeventfds of a region"
text_of_which which.Calls = codes "accepted calls"
text_of_which which.Watchers = codes "watchers"

-- a count that may not grow further
abbrev pub text_of_limit : Which → ℕ → List ℕ
text_of_limit w limit = codes "the limit of " ++ (decimal limit ++ (codes " " ++ (text_of_which w ++ codes " is reached")))

-- a measure of a region that a call would take above its limit
abbrev pub text_of_excess : List ℕ → ℕ → ℕ → List ℕ
text_of_excess measure value most = codes "a region would have " ++ (measure ++ (codes " " ++ (decimal value ++ (codes ", above " ++ decimal most))))

-- why a call is refused, for a reader who knows the call
abbrev pub text_of_refusal : Refusal → List ℕ
text_of_refusal (refusal.Unknown w) = text_of_what w ++ codes " is not there"
text_of_refusal (refusal.NameTaken w) = text_of_what w ++ codes " is there already"
text_of_refusal (refusal.HasContainer region) = codes "the region is in a container already: " ++ text_of_region region
text_of_refusal (refusal.NotChild region) = text_of_region region ++ codes " is in no container, or in another one"
text_of_refusal (refusal.AliasParent region) = text_of_region region ++ codes " is an alias, which takes no children"
text_of_refusal (refusal.Loop region) = text_of_region region ++ codes " cannot be the container: it is the child itself, or is reached from it"
text_of_refusal (refusal.TooDeep depth) = text_of_excess (codes "depth") depth most_depth
text_of_refusal (refusal.TooWide weight) = text_of_excess (codes "weight") weight most_weight
text_of_refusal refusal.BadSize = codes "the size or the range of offsets is not valid"
text_of_refusal refusal.BadOps = codes "the access sizes, the registers or the ioeventfd are not valid"
text_of_refusal (refusal.WrongKind region) = text_of_region region ++ codes " is of another kind than the call is for"
text_of_refusal refusal.NoTransaction = codes "no transaction is open"
text_of_refusal refusal.TooNested = decimal most_nested ++ codes " transactions are open already"
text_of_refusal (refusal.InUse u) = codes "the region is used by " ++ text_of_user u
text_of_refusal (refusal.PageOverlap iova) = codes "the translation meets the one at " ++ text_of_offset iova
text_of_refusal refusal.BadPage = codes "the size of the page is no power of two, or the page is not aligned to it"
text_of_refusal (refusal.LimitReached w limit) = text_of_limit w limit
text_of_refusal (refusal.NoBacking words) = codes "no hole of the pool has " ++ (decimal words ++ codes " words")
text_of_refusal (refusal.Held pass generation) = text_of_pass pass ++ (codes " may still use generation " ++ decimal generation)
text_of_refusal refusal.EventTaken = codes "the region has this ioeventfd already"
text_of_refusal refusal.Memory = codes "out of memory"
