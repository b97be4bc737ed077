use Rattle.std.proofs.Common.{◌∙◌, sym, ap, subst}
use Rattle.mem_base.specs.map.Events.{AreEvents}
use Rattle.mem_base.specs.access.DeviceAccess.{notifier_of}
use Rattle.ioevents.proofs.MatchingLaws.{events_dropped, passed_over}
use Rattle.ioevents.proofs.matching.matches.Goals as goal

pub first_that_fits-requires : goal.first_that_fits-requires
first_that_fits-requires c = subst AreEvents (sym c.split_at.ensures.back) (events_dropped c.args.events.now c.first_at-first.result c.requires)

pub returns : goal.returns
returns c = record {
  value = c.first_that_fits.ensures ∙ ap (λ x. notifier_of x c.args.offset c.args.size c.args.value) c.split_at.ensures.back
      ∙ passed_over c.args.offset c.args.size c.args.value c.args.events.now c.first_at-first.result c.first_at-first.ensures.bound
      c.first_at-first.ensures.passed.0;
}
