use Rattle.std.proofs.Common.{◌∙◌, sym}
use Rattle.ioevents.proofs.MatchingLaws.{next_after}
use Rattle.ioevents.proofs.matching.first_that_fits.Goals as goal

pub returns-then-is_after : goal.returns-then-is_after
returns-then-is_after c =
    sym (sym c.loop-event.invariant.rest ∙ next_after c.args.offset c.args.size c.args.value c.args.events.now c.loop-event.event-index _
    c.loop-event-test.true (sym c.is_after.ensures ∙ c.if-is_after.true) c.loop-event.invariant.events)
