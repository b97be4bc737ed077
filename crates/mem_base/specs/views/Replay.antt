-- What the calls that one listener got make of nothing: ranges, by ascending start, and live ioeventfds in order.
-- QEMU's manual, "The memory API": a listener such as KVM's or vhost's keeps its own map by these calls alone.
use Rattle.std.specs.Prelude.{ℕ, Bool, true, false, ◌==◌, ◌&&◌, ◌||◌, not, nat_lt, if◌then◌else◌, List, [], ◌∷◌, map, filter, Option, Some}
use Rattle.std.specs.Prelude.{None, option_and_then, option_map}
use Rattle.std.specs.List.{list_any}
use Rattle.std.specs.Ordering.{nat_cmp}
use Rattle.std.specs.declared.cmp.Ordering.{Ordering}
use Rattle.mem_base.specs.declared.views.flat.FlatRange.{FlatRange}
use Rattle.mem_base.specs.declared.map.ioevents.Live.{Live}
use Rattle.mem_base.specs.declared.views.listening.RangeEvent.{RangeEvent}
use Rattle.mem_base.specs.declared.views.listening.RangeEvent.TheVariants.{Delete, Add, Keep, LogStart, LogStop}
use Rattle.mem_base.specs.declared.views.listening.ListenerEvent.{ListenerEvent}
use Rattle.mem_base.specs.declared.views.listening.ListenerEvent.TheVariants.{Begin, Range, EventAdd, EventDel, Commit}
use Rattle.mem_base.specs.lists.Sorting.{put_by}
use Rattle.mem_base.specs.views.LiveEvents.{is_same_live, put_live}
use Rattle.mem_base.specs.views.Walk.{is_same_range}

-- all but the log agrees, and the log too
abbrev pub is_equal_range : FlatRange → FlatRange → Bool
is_equal_range r q = is_same_range r q && (r.attrs.log == q.attrs.log)

-- two ranges have an address in common
abbrev pub meets_range : FlatRange → FlatRange → Bool
meets_range r q = not (nat_lt r.last q.start || nat_lt q.last r.start)

-- ranges stand by ascending start
abbrev pub range_order : FlatRange → FlatRange → Ordering
range_order r q = nat_cmp r.start q.start

-- the range with another log
abbrev pub with_log : ℕ → FlatRange → FlatRange
with_log log r = record r { attrs = record r.attrs { log = log } }

-- the same ranges, of which one has another log
abbrev pub relogged : FlatRange → ℕ → List FlatRange → List FlatRange
relogged r log rs = map (λ q. if is_same_range r q then with_log log q else q) rs

-- this, where the call fits
abbrev pub if_fits : {A : Type 0} → Bool → A → Option A
if_fits true x = Some x
if_fits false x = None

-- the ranges after a range call, where it fits: Delete takes an equal range out; Add puts one that meets none; Keep
-- needs one that is the same but for its log; LogStart and LogStop set the log of such a one
abbrev pub ranges_after : List FlatRange → RangeEvent → Option (List FlatRange)
ranges_after rs (Delete r) = if_fits (list_any (is_equal_range r) rs) (filter (λ q. not (is_equal_range r q)) rs)
ranges_after rs (Add r) = if_fits (not (list_any (meets_range r) rs)) (put_by range_order r rs)
ranges_after rs (Keep r) = if_fits (list_any (is_same_range r) rs) rs
ranges_after rs (LogStart r from to) = if_fits (list_any (is_same_range r) rs) (relogged r to rs)
ranges_after rs (LogStop r from to) = if_fits (list_any (is_same_range r) rs) (relogged r to rs)

-- the ranges after some range calls
abbrev pub ranges_after_all : Option (List FlatRange) → List RangeEvent → Option (List FlatRange)
ranges_after_all rs [] = rs
ranges_after_all rs (e ∷ es) = ranges_after_all (option_and_then (λ qs. ranges_after qs e) rs) es

-- what a listener has, and whether it is between a Begin and its Commit
pub record ListenerState : Type 0 where
  pub ranges : List FlatRange
  pub lives : List Live
  pub begun : Bool

-- what a listener has when it joins
abbrev pub nothing_heard : ListenerState
nothing_heard = record { ranges = []; lives = []; begun = false }

-- what a listener has after one call, where the call fits: Begin and Commit alternate, EventAdd brings an ioeventfd
-- that is not there, EventDel takes one out that is
abbrev pub listener_after : ListenerState → ListenerEvent → Option ListenerState
listener_after h Begin = if_fits (not h.begun) (record h { begun = true })
listener_after h (Range e) = option_map (λ rs. record h { ranges = rs }) (ranges_after h.ranges e)
listener_after h (EventAdd l) = if_fits (not (list_any (is_same_live l) h.lives)) (record h { lives = put_live l h.lives })
listener_after h (EventDel l) = if_fits (list_any (is_same_live l) h.lives) (record h { lives = filter (λ x. not (is_same_live l x)) h.lives })
listener_after h Commit = if_fits h.begun (record h { begun = false })

-- what it has after some calls
abbrev pub listener_after_all : Option ListenerState → List ListenerEvent → Option ListenerState
listener_after_all h [] = h
listener_after_all h (e ∷ es) = listener_after_all (option_and_then (λ x. listener_after x e) h) es

-- the replay of all calls that one listener got since it joined; None where a call does not fit
abbrev pub replay : List ListenerEvent → Option ListenerState
replay es = listener_after_all (Some nothing_heard) es
