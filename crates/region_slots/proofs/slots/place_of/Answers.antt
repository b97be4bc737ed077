use Rattle.std.proofs.Common.{◌∙◌, rules, ap}
use Rattle.std.proofs.lemmas.List.Sorted.{answers_always}
use Rattle.region_slots.specs.declared.slots.Slot.{Slot}
use Rattle.region_slots.proofs.PlaceLaws.{found_there, search_found, search_missing}
use Rattle.region_slots.proofs.SlotsLaws.{get_or-default}
use Rattle.region_slots.proofs.slots.place_of.Goals as goal

pub returns-then-slots-guess : goal.returns-then-slots-guess
returns-then-slots-guess c =
    let slots = c.args.slots.now in
    let l = c.if-guess-slots.true in
    let read : Slot = c.index-slots-guess.result in (
      l,
      λ d. found_there slots c.args.region.0 d c.args.region l c.requires
          (ap (λ (s : Slot). s.node.id.0) (get_or-default slots c.args.region.0 d read l) ∙ c.if-slots-guess.true),
    )

pub returns-in-Ok : goal.returns-in-Ok
returns-in-Ok c =
    let by_id = c.in-Ok.ensures.position (λ (s : Slot). s.node.id.0) (answers_always _ _ _ (λ f a r g called. search rules)) in
    (c.in-Ok.ensures.bound, λ d. search_found c.args.slots.now c.requires c.args.region c.in-Ok.i d c.in-Ok.ensures.bound by_id)

pub returns-in-Err : goal.returns-in-Err
returns-in-Err c =
    let by_id = c.in-Err.ensures.position (λ (s : Slot). s.node.id.0) (answers_always _ _ _ (λ f a r g called. search rules)) in
    search_missing c.args.slots.now c.requires c.args.region c.in-Err.field-0 c.in-Err.ensures.bound by_id
