use Rattle.std.proofs.Common.{rules, sym}
use Rattle.std.proofs.lemmas.Fn.{always_returns_same}
use Rattle.mem_base.specs.map.Events.{event_cmp}
use Rattle.mem_base.proofs.PlaceLaws.{place_of-searched}
use Rattle.mem_base.proofs.EventLaws.{rises_events}
use Rattle.mem_base.proofs.map.ioevents.place_of.Goals as goal

pub returns-clause-place : goal.returns-clause-place
returns-clause-place c =
    let stands = event_cmp c.args.offset c.args.size c.args.matched c.args.value in
    let position = c.binary_search_by.ensures.position stands (always_returns_same _ _ _ (λ a r f' k. search rules)) in
    sym (place_of-searched stands c.args.events.now c.binary_search_by.result
    (rises_events c.args.offset c.args.size c.args.matched c.args.value c.args.events.now c.requires) c.binary_search_by.ensures.bound position)
