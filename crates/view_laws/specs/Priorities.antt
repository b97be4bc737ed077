-- In which order two listeners of one space hear the calls of a publish.
-- QEMU's core, `MEMORY_LISTENER_CALL` with its two directions. The order of ioeventfd calls and of log calls is held as
-- this project's own, whatever the core does.
use Rattle.std.specs.Prelude.{◌≡◌, ◌⊎◌, Bool, true, false, ◌==◌, ◌||◌, if◌then◌else◌, ◌≤ℤ◌, ◌<ℤ◌, List, [], ◌∷◌, ◌++◌, filter, find, flat_map, is_some}
use Rattle.mem_base.specs.declared.map.ids.ListenerId.{ListenerId}
use Rattle.mem_base.specs.declared.map.forests.Forest.{Forest}
use Rattle.mem_base.specs.declared.views.listening.Listener.{Listener}
use Rattle.mem_base.specs.declared.views.listening.RangeEvent.TheVariants.{Delete, Add, Keep, LogStart, LogStop}
use Rattle.mem_base.specs.declared.views.listening.ListenerEvent.{ListenerEvent}
use Rattle.mem_base.specs.declared.views.listening.ListenerEvent.TheVariants.{Begin, Range, EventAdd, EventDel, Commit}
use Rattle.mem_base.specs.lists.Every.{EveryPair}
use Rattle.mem_base.specs.map.Forest.{AreOtherSpaces}
use Rattle.mem_base.specs.map.Search.{is_space}
use Rattle.mem_base.specs.views.Listening.{Delivery, ascending, calls_of, deliveries_of_changes, change_of, changes_between}

-- the id is that of one of two listeners
abbrev pub is_either : Listener → Listener → ListenerId → Bool
is_either x y id = (id.0 == x.listener.0) || (id.0 == y.listener.0)

-- the listeners with the ids of these two, in order of joining
abbrev pub those_two : Listener → Listener → List Listener → List Listener
those_two x y ls = filter (λ l. is_either x y l.listener) ls

-- the calls to these two alone, in order
abbrev pub calls_to_two : Listener → Listener → List Delivery → List Delivery
calls_to_two x y deliveries = filter (λ d. is_either x y d.0) deliveries

-- both listen, and one stands below the other: its priority is lower, or it is the same and it joined first
abbrev pub StandsBelow : List Listener → Listener → Listener → Type 0
StandsBelow ls lower upper =
    ((those_two lower upper ls ≡ lower ∷ upper ∷ []) × (lower.priority ≤ℤ upper.priority))
    ⊎ ((those_two lower upper ls ≡ upper ∷ lower ∷ []) × (lower.priority <ℤ upper.priority))

-- the calls that the upper of two listeners hears first
abbrev pub is_for_upper_first : ListenerEvent → Bool
is_for_upper_first Begin = false
is_for_upper_first (Range (Delete range)) = true
is_for_upper_first (Range (Add range)) = false
is_for_upper_first (Range (Keep range)) = false
is_for_upper_first (Range (LogStart range from to)) = false
is_for_upper_first (Range (LogStop range from to)) = true
is_for_upper_first (EventAdd live) = true
is_for_upper_first (EventDel live) = false
is_for_upper_first Commit = false

-- one call to both
abbrev pub told_in_turn : Listener → Listener → ListenerEvent → List Delivery
told_in_turn lower upper event = if is_for_upper_first event
    then (upper.listener, event) ∷ (lower.listener, event) ∷ []
    else (lower.listener, event) ∷ (upper.listener, event) ∷ []

-- a publish as two listeners of one space hear it: Begin, the calls of the space and Commit, each told to both before
-- the next; a Delete, a LogStop and an EventAdd to the upper one first, all else to the lower one first
abbrev pub CallsGoByPriority : Type 0
CallsGoByPriority = (ls : List Listener) (lower upper : Listener) (old new : Forest) → StandsBelow ls lower upper → lower.space ≡ upper.space →
    EveryPair AreOtherSpaces new.spaces → is_some (find (is_space lower.space) new.spaces) ≡ true →
    calls_to_two lower upper (deliveries_of_changes (ascending ls) (changes_between old new))
    ≡ flat_map (told_in_turn lower upper) (Begin ∷ calls_of (change_of old new lower.space) ++ Commit ∷ [])
