-- What listeners were told, as numbers.
use Rattle.std.specs.Prelude.{◌≡◌, ℕ, ◌-◌, ◌^◌, min, pos, false, int_lt, unsigned_abs, length, Option, Some, None, slice_get}
use Rattle.mem_base.specs.declared.map.ioevents.Live.{Live}
use Rattle.mem_base.specs.declared.views.listening.ListenerEvent.TheVariants.{Begin, Range, EventAdd, EventDel, Commit}
use Rattle.mem_base.specs.declared.views.listening.RangeEvent.TheVariants.{Delete, Add, Keep, LogStart, LogStop}
use Rattle.mem_base.specs.views.Listening.{Delivery}
use Rattle.mem_base.specs.machine.World.{World}
use Rattle.libvobrekan.specs.declared.answers.Answer.{Answer}
use Rattle.libvobrekan.specs.declared.shown.RangeNumbers.{RangeNumbers}
use Rattle.libvobrekan.specs.declared.deliveries.LiveNumbers.{LiveNumbers}
use Rattle.libvobrekan.specs.declared.deliveries.DeliveryNumbers.{DeliveryNumbers}
use Rattle.libvobrekan.specs.Answers.{done, no_machine}
use Rattle.libvobrekan.specs.Shown.{put_where, range_told}

-- no range, and no ioeventfd
abbrev pub no_range : RangeNumbers
no_range = record {
  start = 0;
  last = 0;
  offset = 0;
  region = 0;
  log = 0;
  readonly = false;
  nonvolatile = false;
  romd = false;
  unmergeable = false;
}

abbrev pub no_live : LiveNumbers
no_live = record { distance = 0; value = 0; number = 0; size = 0; matched = false; is_below = false }

-- an ioeventfd as a view shows it: how far its address is from 0, and whether it is below
abbrev pub live_told : Live → LiveNumbers
live_told live = record {
  distance = min (unsigned_abs live.addr) (2 ^ 64 - 1);
  value = live.value;
  number = live.number;
  size = live.size;
  matched = live.matched;
  is_below = int_lt live.addr (pos 0);
}

abbrev pub delivery : ℕ → ℕ → RangeNumbers → ℕ → ℕ → LiveNumbers → DeliveryNumbers
delivery what listener range from to event = record {
  what = what;
  listener = listener;
  range = range;
  event = event;
  from = from;
  to = to;
}

-- one call of a listener
abbrev pub delivery_told : Delivery → DeliveryNumbers
delivery_told (listener, Begin) = delivery 0 listener.0 no_range 0 0 no_live
delivery_told (listener, Range (Delete range)) = delivery 1 listener.0 (range_told range) 0 0 no_live
delivery_told (listener, Range (Add range)) = delivery 2 listener.0 (range_told range) 0 0 no_live
delivery_told (listener, Range (Keep range)) = delivery 3 listener.0 (range_told range) 0 0 no_live
delivery_told (listener, Range (LogStart range from to)) = delivery 4 listener.0 (range_told range) from to no_live
delivery_told (listener, Range (LogStop range from to)) = delivery 5 listener.0 (range_told range) from to no_live
delivery_told (listener, EventAdd live) = delivery 6 listener.0 no_range 0 0 (live_told live)
delivery_told (listener, EventDel live) = delivery 7 listener.0 no_range 0 0 (live_told live)
delivery_told (listener, Commit) = delivery 8 listener.0 no_range 0 0 no_live

-- the call at an index of the journal of a handle's machine, where there is one, and how many there are
abbrev pub ShowsDelivery : Option World → ℕ → DeliveryNumbers → Answer → DeliveryNumbers → Type 0
ShowsDelivery None index before answer out = (answer ≡ no_machine) × (out ≡ before)
ShowsDelivery (Some w) index before answer out =
    (answer ≡ done (length w.writer.desk.listening.journal) w.writer.generations.current)
    × (out ≡ put_where delivery_told (slice_get w.writer.desk.listening.journal index) before)
