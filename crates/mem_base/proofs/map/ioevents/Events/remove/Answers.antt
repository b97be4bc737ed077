use Rattle.std.proofs.Common.{◌≡◌, sym, subst, ap, not, filter, Ok, Err, ◌∙◌}
use Rattle.mem_base.specs.declared.map.ioevents.Ioevent.{Ioevent}
use Rattle.mem_base.specs.lists.Sorting.{place_of}
use Rattle.mem_base.specs.map.Events.{event_cmp, match_order, AreEvents, is_event}
use Rattle.mem_base.proofs.PlaceLaws.{remove-place_of, filter-absent}
use Rattle.mem_base.proofs.EventLaws.{rises_events, is_event-is}
use Rattle.mem_base.proofs.PlaceLaws.{rising-filter}
use Rattle.mem_base.proofs.map.ioevents.Events.remove.Goals as goal

-- what is left is what was not sought
left : (c : goal.After-remove) → c.remove.new.self.items ≡ filter
    (λ (e : Ioevent). not (is_event c.args.offset c.args.size c.args.matched c.args.value e)) c.self.inside.items.items
left c =
    let stands = event_cmp c.args.offset c.args.size c.args.matched c.args.value in
    let is = is_event c.args.offset c.args.size c.args.matched c.args.value in
    let items = c.self.inside.items.items in
    let place : place_of stands items ≡ Ok c.in-Ok.place = sym (c.in-Ok.ensures.place ∙ ap (place_of stands) c.as_slice.ensures.value) in
    c.remove.ensures.items
    ∙ remove-place_of stands is (is_event-is c.args.offset c.args.size c.args.matched c.args.value) items c.in-Ok.place
    (rises_events c.args.offset c.args.size c.args.matched c.args.value items c.self.invariant) place

pub invariant_of-self : goal.invariant_of-self
invariant_of-self c = subst AreEvents (sym (left c))
    (rising-filter match_order (λ (e : Ioevent). not (is_event c.args.offset c.args.size c.args.matched c.args.value e)) c.self.inside.items.items
    c.self.invariant)

pub returns-in-Ok : goal.returns-in-Ok
returns-in-Ok c = left c ∙ ap (filter (λ (e : Ioevent). not (is_event c.args.offset c.args.size c.args.matched c.args.value e))) c.self.view_is

pub returns-in_default : goal.returns-in_default
returns-in_default c =
    let stands = event_cmp c.args.offset c.args.size c.args.matched c.args.value in
    let is = is_event c.args.offset c.args.size c.args.matched c.args.value in
    let items = c.self.inside.items.items in
    let place : place_of stands items ≡ Err c.in_default.field-0 = sym (c.in_default.ensures.place ∙ ap (place_of stands) c.as_slice.ensures.value) in
    sym (ap (filter (λ (e : Ioevent). not (is e))) (sym c.self.view_is)
    ∙ filter-absent stands is (is_event-is c.args.offset c.args.size c.args.matched c.args.value) items c.in_default.field-0
    (rises_events c.args.offset c.args.size c.args.matched c.args.value items c.self.invariant) place
    ∙ c.self.view_is)
