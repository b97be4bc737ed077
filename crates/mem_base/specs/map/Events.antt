-- The ioeventfds of a device: writes that set a notifier in place of reaching it.
-- `memory_region_add_eventfd` of QEMU's core.
use Rattle.std.specs.Prelude.{ℕ, ◌==◌, ◌&&◌, ◌||◌, nat_lt, Bool, List}
use Rattle.std.specs.List.{list_any}
use Rattle.std.specs.declared.cmp.Ordering.{Ordering}
use Rattle.std.specs.Ordering.{nat_cmp, bool_cmp, ordering_then}
use Rattle.mem_base.specs.declared.map.ioevents.Ioevent.{Ioevent}
use Rattle.mem_base.specs.declared.map.forests.Node.{Node}
use Rattle.mem_base.specs.lists.Booleans.{bool_eq}
use Rattle.mem_base.specs.lists.Sorting.{IsRising}
use Rattle.mem_base.specs.map.Limits.{notifier_count}
use Rattle.mem_base.specs.map.Devices.{is_access_size}

-- ioeventfds stand by offset, size, whether they are matched (false first), value and number
abbrev pub event_order : Ioevent → Ioevent → Ordering
event_order x y =
    ordering_then (nat_cmp x.offset y.offset)
    (ordering_then (nat_cmp x.size y.size) (ordering_then (bool_cmp x.matched y.matched)
    (ordering_then (nat_cmp x.value y.value) (nat_cmp x.number y.number))))

-- how an ioeventfd stands to an offset, a size, whether it is matched, and a value
abbrev pub event_cmp : ℕ → ℕ → Bool → ℕ → Ioevent → Ordering
event_cmp offset size matched value e =
    ordering_then (nat_cmp e.offset offset) (ordering_then (nat_cmp e.size size) (ordering_then (bool_cmp e.matched matched) (nat_cmp e.value value)))

-- how two ioeventfds stand, whatever their notifiers
abbrev pub match_order : Ioevent → Ioevent → Ordering
match_order x y = event_cmp y.offset y.size y.matched y.value x

-- ioeventfds by offset, size, matched and value, no two of which agree in all of these
abbrev pub AreEvents : List Ioevent → Type 0
AreEvents events = IsRising match_order events

-- the ioeventfd with this offset, size, matched and value, whatever its notifier
abbrev pub is_event : ℕ → ℕ → Bool → ℕ → Ioevent → Bool
is_event offset size matched value e =
    (e.offset == offset) && (e.size == size) && bool_eq e.matched matched && (e.value == value)

-- a region has this ioeventfd
abbrev pub has_event : ℕ → ℕ → Bool → ℕ → Node → Bool
has_event offset size matched value n = list_any (is_event offset size matched value) n.events

-- it has an access size, a notifier that there is, and a value of 0 where it is not matched
abbrev pub is_good_event : Ioevent → Bool
is_good_event e = is_access_size e.size && nat_lt e.number notifier_count && (e.matched || (e.value == 0))
