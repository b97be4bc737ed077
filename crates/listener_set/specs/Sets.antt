-- What a set of listeners is seen as.
use Rattle.std.specs.Prelude.{◌≡◌, ℕ, ◌-◌, ◌≤◌, Bool, true, if◌then◌else◌, List, [], ◌∷◌, length, flat_map, reverse, Option, Some, None, vec_len, vec_capacity}
use Rattle.mem_base.specs.declared.map.ids.SpaceId.{SpaceId}
use Rattle.mem_base.specs.declared.views.listening.Listener.{Listener}
use Rattle.mem_base.specs.declared.views.listening.ListenerEvent.{ListenerEvent}
use Rattle.mem_base.specs.declared.views.listening.Change.{Change}
use Rattle.mem_base.specs.views.Listening.{Delivery, Listening, hears, ascending, deliveries_of_changes}
use Rattle.listener_set.specs.declared.set.Set.TheInside.{Inside}

-- who listens and what was told since the journal was last taken out, and for how many more calls it has room
pub record Listeners : Type 0 where
  pub listening : Listening
  pub room : ℕ

-- the calls that a publish of these changes makes
abbrev pub publishing : Listening → List Change → List Delivery
publishing x changes = deliveries_of_changes (ascending x.listeners) changes

-- the journal has room for them
abbrev pub HasRoom : Listeners → List Change → Type 0
HasRoom s changes = length (publishing s.listening changes) ≤ s.room

-- the same listeners, with these calls in the journal
abbrev pub with_journal : List Delivery → Listening → Listening
with_journal calls x = record x { journal = calls }

-- the set with its journal and the room that is left there
abbrev pub listeners_of : Inside → Listeners
listeners_of s = record {
  listening = record { listeners = s.listeners.items; journal = s.journal.items };
  room = vec_capacity s.journal - vec_len s.journal;
}

-- beside the listeners in order of joining, the same by priority
abbrev pub IsInOrder : Inside → Type 0
IsInOrder s = s.order.items ≡ ascending s.listeners.items

-- a listener is told what concerns a space, or what concerns all
abbrev pub is_told : Option SpaceId → Listener → Bool
is_told None l = true
is_told (Some s) l = hears s l

-- one call to a listener, where it is told
abbrev pub told_one : Option SpaceId → ListenerEvent → Listener → List Delivery
told_one space event l = if is_told space l then (l.listener, event) ∷ [] else []

-- one call to each of these listeners that is told, from the first to the last
abbrev pub told_up : Option SpaceId → ListenerEvent → List Listener → List Delivery
told_up space event listeners = flat_map (told_one space event) listeners

-- and from the last to the first
abbrev pub told_down : Option SpaceId → ListenerEvent → List Listener → List Delivery
told_down space event listeners = flat_map (told_one space event) (reverse listeners)
