-- Why a call is refused for a region's translations, its device and its ioeventfds, and for a count that stands at
-- its limit. But for Unknown, a condition on a region that is not there does not stand. This project's own rules.
use Rattle.std.specs.Prelude.{ℕ, ◌%◌, ◌==◌, ◌||◌, not, Bool, nat_le, length, Option, option_map, option_and_then, count_ones}
use Rattle.std.specs.List.{list_any}
use Rattle.std.specs.Option.{option_or}
use Rattle.mem_base.specs.declared.map.ids.RegionId.{RegionId}
use Rattle.mem_base.specs.declared.map.forests.Forest.{Forest}
use Rattle.mem_base.specs.declared.map.kinds.Device.{Device}
use Rattle.mem_base.specs.declared.map.ioevents.Ioevent.{Ioevent}
use Rattle.mem_base.specs.declared.map.refusals.Refusal.{Refusal}
use Rattle.mem_base.specs.declared.map.refusals.Refusal.TheVariants.{Unknown, BadOps, PageOverlap, BadPage, LimitReached, EventTaken}
use Rattle.mem_base.specs.declared.map.refusals.What.TheVariants as what
use Rattle.mem_base.specs.declared.map.refusals.Which.{Which}
use Rattle.mem_base.specs.declared.map.refusals.Which.TheVariants as which
use Rattle.mem_base.specs.map.Limits.{most_made, most_regions, most_spaces, most_entries, most_events, most_calls}
use Rattle.mem_base.specs.map.Region.{node_of}
use Rattle.mem_base.specs.map.Devices.{is_good_device}
use Rattle.mem_base.specs.map.Entries.{has_iova, least_met}
use Rattle.mem_base.specs.map.Events.{has_event, is_good_event}
use Rattle.mem_base.specs.map.Refusals.{refuse_if, refuse_where}

-- Unknown: no translation has this iova, no ioeventfd is this one

-- no translation of the region begins at this iova
abbrev pub unknown_entry : Forest → RegionId → ℕ → Option Refusal
unknown_entry f r iova =
    refuse_where (λ n. not (list_any (has_iova iova) n.entries)) (Unknown (what.Entry iova)) (node_of f.nodes r)

-- the region has no such ioeventfd
abbrev pub unknown_event : Forest → RegionId → ℕ → ℕ → Bool → ℕ → Option Refusal
unknown_event f r offset size matched value =
    refuse_where (λ n. not (has_event offset size matched value n)) (Unknown (what.Event offset)) (node_of f.nodes r)

-- BadOps: access sizes are 1, 2, 4 or 8, the least at most the greatest, and a device has 1 to 512 registers

-- the device, if there is one, is not one that a region may have
abbrev pub bad_device : Option Device → Option Refusal
bad_device device = option_and_then (λ d. refuse_if (not (is_good_device d)) BadOps) device

-- the ioeventfd is not one that a region may have
abbrev pub bad_event : Ioevent → Option Refusal
bad_event e = refuse_if (not (is_good_event e)) BadOps

-- BadPage: the size is a power of two, and the page begins at a multiple of it

-- such a page may not be mapped
abbrev pub bad_page : ℕ → ℕ → Option Refusal
bad_page iova size = refuse_if (not (count_ones size == 1) || not (iova % size == 0)) BadPage

-- PageOverlap: the least translation whose page the new one meets

-- the page meets one that is mapped in the region
abbrev pub page_overlap : Forest → RegionId → ℕ → ℕ → Option Refusal
page_overlap f r iova size =
    option_and_then (λ n. option_map (λ met. PageOverlap met) (least_met iova size n.entries)) (node_of f.nodes r)

-- EventTaken: the region has this ioeventfd, whatever its notifier

-- the region has such an ioeventfd
abbrev pub event_taken : Forest → RegionId → Ioevent → Option Refusal
event_taken f r e = refuse_where (has_event e.offset e.size e.matched e.value) EventTaken (node_of f.nodes r)

-- LimitReached: the count stands at its limit

-- a count of these stands at its limit
abbrev pub at_limit : Which → ℕ → ℕ → Option Refusal
at_limit which most count = refuse_if (nat_le most count) (LimitReached which most)

-- as many calls were accepted as may be
abbrev pub no_more_calls : Forest → Option Refusal
no_more_calls f = at_limit which.Calls most_calls f.calls

-- as many regions were made, or are there, as may be
abbrev pub no_more_regions : Forest → Option Refusal
no_more_regions f = option_or (at_limit which.Made most_made f.made) (at_limit which.Regions most_regions (length f.nodes))

-- as many spaces are there as may be
abbrev pub no_more_spaces : Forest → Option Refusal
no_more_spaces f = at_limit which.Spaces most_spaces (length f.spaces)

-- the region has as many translations as it may have
abbrev pub no_more_entries : Forest → RegionId → Option Refusal
no_more_entries f r = option_and_then (λ n. at_limit which.Entries most_entries (length n.entries)) (node_of f.nodes r)

-- the region has as many ioeventfds as it may have
abbrev pub no_more_events : Forest → RegionId → Option Refusal
no_more_events f r = option_and_then (λ n. at_limit which.Events most_events (length n.events)) (node_of f.nodes r)
