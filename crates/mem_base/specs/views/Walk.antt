-- The walk from an old view to a new one, by which listeners are told.
-- QEMU's core, `address_space_update_topology_pass`: first the deletes, then all else. Two ranges are the same where
-- all but the logging mask agrees.
use Rattle.std.specs.Prelude.{ℕ, Bool, ◌==◌, ◌&&◌, not, if◌then◌else◌, bit_or, List, [], ◌∷◌, ◌++◌, map, filter, flat_map, find, Option, Some, None}
use Rattle.mem_base.specs.map.Attributes.{is_same_flags}
use Rattle.std.specs.List.{list_any}
use Rattle.mem_base.specs.declared.views.flat.FlatRange.{FlatRange}
use Rattle.mem_base.specs.declared.views.listening.RangeEvent.{RangeEvent}
use Rattle.mem_base.specs.declared.views.listening.RangeEvent.TheVariants.{Delete, Add, Keep, LogStart, LogStop}

-- start, last, leaf, offset and flags agree; the log is left out
abbrev pub is_same_range : FlatRange → FlatRange → Bool
is_same_range r q = (r.start == q.start) && (r.last == q.last) && (r.leaf.0 == q.leaf.0) && (r.offset == q.offset) && is_same_flags r.attrs q.attrs

-- the second mask has bits that the first has not
abbrev pub has_more_bits : ℕ → ℕ → Bool
has_more_bits from to = not (bit_or from to == from)

-- the range is logged for clients for whom it was not
abbrev pub log_started : FlatRange → ℕ → ℕ → List RangeEvent
log_started new from to = if has_more_bits from to then LogStart new from to ∷ [] else []

-- the range is no longer logged for clients for whom it was
abbrev pub log_stopped : FlatRange → ℕ → ℕ → List RangeEvent
log_stopped new from to = if has_more_bits to from then LogStop new from to ∷ [] else []

-- a new range, beside the old one that is the same, if there is one
abbrev pub added_or_kept : FlatRange → Option FlatRange → List RangeEvent
added_or_kept new None = Add new ∷ []
added_or_kept new (Some old) =
    Keep new ∷ log_started new old.attrs.log new.attrs.log ++ log_stopped new old.attrs.log new.attrs.log

-- the old ranges that are no more
abbrev pub deleted : List FlatRange → List FlatRange → List RangeEvent
deleted old new = map (λ r. Delete r) (filter (λ r. not (list_any (is_same_range r) new)) old)

-- the new ranges, each added or kept
abbrev pub shown_again : List FlatRange → List FlatRange → List RangeEvent
shown_again old new = flat_map (λ r. added_or_kept r (find (is_same_range r) old)) new

-- the calls from the old ranges to the new ones
abbrev pub walk : List FlatRange → List FlatRange → List RangeEvent
walk old new = deleted old new ++ shown_again old new
