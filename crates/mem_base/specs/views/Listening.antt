-- Who listens, and what they are told: when they join and leave, and when a generation is published.
-- QEMU's core, `memory_listener_register`, `memory_listener_unregister`, `memory_region_transaction_commit` and
-- `MEMORY_LISTENER_CALL` with its two directions. This project's own are the journal, the bound on listeners, that a
-- listener that leaves loses its ioeventfds before its ranges, and that one that joins or leaves is told of no logging;
-- and the order of log and ioeventfd calls is held as this project's own, whatever the core does.
use Rattle.std.specs.Prelude.{Bool, true, false, ◌==◌, nat_le, not, if◌then◌else◌, List, [], ◌∷◌, ◌++◌, map, filter, flat_map, reverse, length, Option}
use Rattle.std.specs.List.{list_any, fold}
use Rattle.std.specs.declared.cmp.Ordering.{Ordering}
use Rattle.std.specs.Ordering.{int_cmp, bool_cmp, ordering_then}
use Rattle.mem_base.specs.declared.map.ids.ListenerId.{ListenerId}
use Rattle.mem_base.specs.declared.map.ids.SpaceId.{SpaceId}
use Rattle.mem_base.specs.declared.views.flat.FlatRange.{FlatRange}
use Rattle.mem_base.specs.declared.map.ioevents.Live.{Live}
use Rattle.mem_base.specs.declared.map.forests.Forest.{Forest}
use Rattle.mem_base.specs.declared.views.listening.Listener.{Listener}
use Rattle.mem_base.specs.declared.views.listening.Change.{Change}
use Rattle.mem_base.specs.declared.views.listening.RangeEvent.TheVariants.{Delete, Add, LogStop}
use Rattle.mem_base.specs.declared.views.listening.ListenerEvent.{ListenerEvent}
use Rattle.mem_base.specs.declared.views.listening.ListenerEvent.TheVariants.{Begin, Range, EventAdd, EventDel, Commit}
use Rattle.mem_base.specs.declared.map.refusals.Refusal.{Refusal}
use Rattle.mem_base.specs.declared.map.refusals.Refusal.TheVariants.{Unknown, NameTaken, LimitReached}
use Rattle.mem_base.specs.declared.map.refusals.What.TheVariants as what
use Rattle.mem_base.specs.declared.map.refusals.Which.TheVariants as which
use Rattle.mem_base.specs.map.Limits.{most_listeners}
use Rattle.mem_base.specs.map.Refusals.{first_refusal, refuse_if}
use Rattle.mem_base.specs.lists.Sorting.{put_by, sorted_by}
use Rattle.mem_base.specs.views.LiveEvents.{live_order, lives_of, without}
use Rattle.mem_base.specs.views.Flattened.{view_of}
use Rattle.mem_base.specs.views.Walk.{walk}

-- a call with the listener that got it
abbrev pub Delivery : Type 0
Delivery = ListenerId × ListenerEvent

-- the listeners in order of joining, and all calls that were ever made
pub record Listening : Type 0 where
  pub listeners : List Listener
  pub journal : List Delivery

-- nobody listens yet
abbrev pub no_listeners : Listening
no_listeners = record { listeners = []; journal = [] }

-- the listener has this id
abbrev pub is_listener : ListenerId → Listener → Bool
is_listener id l = l.listener.0 == id.0

-- the listener is there
abbrev pub listens : Listening → ListenerId → Bool
listens x id = list_any (is_listener id) x.listeners

-- these calls, all to one listener
abbrev pub deliveries_to : ListenerId → List ListenerEvent → List Delivery
deliveries_to id events = map (λ e. (id, e)) events

-- one listener joins a space: it is told what the space shows

-- what it is told
abbrev pub joining : List FlatRange → List Live → List ListenerEvent
joining ranges lives = Begin ∷ map (λ r. Range (Add r)) ranges ++ map (λ l. EventAdd l) lives ++ Commit ∷ []

-- the listeners with this one last, and its calls in the journal
abbrev pub joined : Listening → Listener → List FlatRange → List Live → Listening
joined x l ranges lives = record {
  listeners = x.listeners ++ l ∷ [];
  journal = x.journal ++ deliveries_to l.listener (joining ranges lives);
}

-- why it may not: it listens already, or too many do
abbrev pub join_refusal : Listening → ListenerId → Option Refusal
join_refusal x id = first_refusal
    (refuse_if (listens x id) (NameTaken (what.Listener id))
    ∷ refuse_if (nat_le most_listeners (length x.listeners)) (LimitReached which.Listeners most_listeners) ∷ [])

-- one listener leaves: its ioeventfds are deleted before its ranges

-- what it is told
abbrev pub leaving : List FlatRange → List Live → List ListenerEvent
leaving ranges lives = Begin ∷ map (λ l. EventDel l) lives ++ map (λ r. Range (Delete r)) ranges ++ Commit ∷ []

-- the listeners without this one, and its calls in the journal
abbrev pub left : Listening → ListenerId → List FlatRange → List Live → Listening
left x id ranges lives = record {
  listeners = filter (λ l. not (is_listener id l)) x.listeners;
  journal = x.journal ++ deliveries_to id (leaving ranges lives);
}

-- why it may not: it does not listen
abbrev pub leave_refusal : Listening → ListenerId → Option Refusal
leave_refusal x id = refuse_if (not (listens x id)) (Unknown (what.Listener id))

-- a generation is published

-- listeners stand by ascending priority
abbrev pub priority_order : Listener → Listener → Ordering
priority_order x y = int_cmp x.priority y.priority

-- by ascending priority; one that joins stands after those of its priority
abbrev pub ascending : List Listener → List Listener
ascending listeners = fold (λ before l. put_by priority_order l before) [] listeners

-- deletes, the ends of logging and new ioeventfds go to the listeners in descending order, all else in ascending order
abbrev pub goes_down : ListenerEvent → Bool
goes_down (Range (Delete r)) = true
goes_down (Range (LogStop r from to)) = true
goes_down (EventAdd l) = true
goes_down _ = false

-- one call to each of some listeners, which are given in ascending order
abbrev pub deliver_each : List Listener → ListenerEvent → List Delivery
deliver_each listeners event = map (λ l. (l.listener, event)) (if goes_down event then reverse listeners else listeners)

-- an ioeventfd that is lost or gained
pub record Switch : Type 0 where
  pub live : Live
  pub on : Bool

-- such a switch, by whether it is gained
abbrev pub switch : Bool → Live → Switch
switch on live = record { live = live; on = on }

-- by ioeventfd; of one and the same, that it is lost comes before that it is gained
abbrev pub switch_order : Switch → Switch → Ordering
switch_order x y = ordering_then (live_order x.live y.live) (bool_cmp x.on y.on)

-- the lost and the gained ioeventfds of a space together, in order
abbrev pub switches : List Live → List Live → List Switch
switches lost gained = sorted_by switch_order (map (switch false) lost ++ map (switch true) gained)

-- the call that tells of it
abbrev pub switched : Switch → ListenerEvent
switched x = if x.on then EventAdd x.live else EventDel x.live

-- the calls of one space: its walk, and then its ioeventfds
abbrev pub calls_of : Change → List ListenerEvent
calls_of c = map (λ e. Range e) c.walk ++ map switched (switches c.lost c.gained)

-- one space's calls go to the listeners of that space
abbrev pub hears : SpaceId → Listener → Bool
hears s l = l.space.0 == s.0

-- the calls of one change, each to those who listen to its space
abbrev pub deliveries_of : List Listener → Change → List Delivery
deliveries_of listeners c = flat_map (deliver_each (filter (hears c.space) listeners)) (calls_of c)

-- Begin to all, the calls of each space, and Commit to all
abbrev pub deliveries_of_changes : List Listener → List Change → List Delivery
deliveries_of_changes listeners changes = deliver_each listeners Begin ++ flat_map (deliveries_of listeners) changes ++ deliver_each listeners Commit

-- the journal with the calls of all changes
abbrev pub delivered : Listening → List Change → Listening
delivered x changes = record x { journal = x.journal ++ deliveries_of_changes (ascending x.listeners) changes }

-- how what a space shows differs from an old forest to a new one
abbrev pub change_of : Forest → Forest → SpaceId → Change
change_of old new s = record {
  space = s;
  walk = walk (view_of old s) (view_of new s);
  lost = without (lives_of old s) (lives_of new s);
  gained = without (lives_of new s) (lives_of old s);
}

-- the changes of all spaces, in order of making
abbrev pub changes_between : Forest → Forest → List Change
changes_between old new = map (λ p. change_of old new p.0) new.spaces

-- the calls of one listener
abbrev pub calls_to : ListenerId → List Delivery → List ListenerEvent
calls_to id [] = []
calls_to id (t ∷ ts) = if t.0.0 == id.0 then t.1 ∷ calls_to id ts else calls_to id ts
