use Rattle.std.proofs.Common.{sym, ap, ◌∙◌}
use Rattle.mem_base.specs.lists.Sorting.{place_of}
use Rattle.mem_base.specs.map.Events.{event_cmp, is_event}
use Rattle.mem_base.proofs.PlaceLaws.{any-place_of}
use Rattle.mem_base.proofs.EventLaws.{rises_events, is_event-is}
use Rattle.mem_base.proofs.map.ioevents.Events.has.Goals as goal

pub returns : goal.returns
returns c =
    let stands = event_cmp c.args.offset c.args.size c.args.matched c.args.value in
    let is = is_event c.args.offset c.args.size c.args.matched c.args.value in
    let place = sym (c.place_of.ensures.place ∙ ap (place_of stands) c.as_slice.ensures.value) in
    c.is_ok.ensures.value
    ∙ any-place_of stands is (is_event-is c.args.offset c.args.size c.args.matched c.args.value) c.args.self.now c.place_of.result
    (rises_events c.args.offset c.args.size c.args.matched c.args.value c.args.self.now c.as_slice.ensures.events) place
