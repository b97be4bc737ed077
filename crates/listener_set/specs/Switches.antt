-- Which ioeventfd of a space comes next: of those that are lost and those that are gained, each by itself in order.
use Rattle.std.specs.Prelude.{List, [], ◌∷◌, flat_map, filter, Option, Some, None}
use Rattle.std.specs.declared.cmp.Ordering.{Ordering}
use Rattle.std.specs.declared.cmp.Ordering.TheVariants.{Less, Equal, Greater}
use Rattle.mem_base.specs.declared.map.ids.SpaceId.{SpaceId}
use Rattle.mem_base.specs.declared.map.ioevents.Live.{Live}
use Rattle.mem_base.specs.declared.views.listening.Listener.{Listener}
use Rattle.mem_base.specs.declared.views.listening.ListenerEvent.{ListenerEvent}
use Rattle.mem_base.specs.views.LiveEvents.{live_order}
use Rattle.mem_base.specs.views.Listening.{Delivery, deliver_each}
use Rattle.listener_set.specs.Sets.{is_told}
use Rattle.listener_set.specs.declared.switching.NextSwitch.{NextSwitch}
use Rattle.listener_set.specs.declared.switching.NextSwitch.TheVariants.{Lost, Gained}

-- the first of some ioeventfds
abbrev pub first_live : List Live → Option Live
first_live [] = None
first_live (x ∷ xs) = Some x

abbrev pub lesser : Ordering → Live → Live → NextSwitch
lesser Less x y = Lost x
lesser Equal x y = Lost x
lesser Greater x y = Gained y

-- the lesser one; of one and the same, that it is lost
abbrev pub next_of : Option Live → Option Live → Option NextSwitch
next_of None None = None
next_of (Some x) None = Some (Lost x)
next_of None (Some y) = Some (Gained y)
next_of (Some x) (Some y) = Some (lesser (live_order x y) x y)

-- some calls, one after another, to each listener of a space
abbrev pub told_all : SpaceId → List Listener → List ListenerEvent → List Delivery
told_all space listeners events = flat_map (deliver_each (filter (is_told (Some space)) listeners)) events
