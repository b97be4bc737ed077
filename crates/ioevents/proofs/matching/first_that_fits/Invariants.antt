use Rattle.std.proofs.Common.{◌≡◌, drop}
use Rattle.mem_base.specs.map.Events.{AreEvents}
use Rattle.mem_base.specs.access.DeviceAccess.{notifier_of}
use Rattle.ioevents.proofs.matching.first_that_fits.Given as goal

abbrev pub invariant-loop-event : goal.invariant-loop-event
invariant-loop-event l = record {
  rest : notifier_of (drop l.event-index l.events) l.offset l.size l.value ≡ notifier_of l.events l.offset l.size l.value;
  events : AreEvents (drop l.event-index l.events);
}
