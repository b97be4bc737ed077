use Rattle.std.proofs.Common.{◌∙◌, ap}
use Rattle.mem_base.specs.declared.map.ids.RegionId.{RegionId}
use Rattle.region_slots.specs.declared.slots.Slot.{Slot}
use Rattle.region_slots.specs.Slots.{nodes_of}
use Rattle.region_extents.specs.Extents.{told_of, stepped}
use Rattle.region_extents.specs.Kept.{steps_plus}
use Rattle.region_extents.proofs.RaiseLaws.{replaced_if, found_slot}
use Rattle.region_extents.proofs.raising.reset.Goals as goal

pub returns-clause-settled : goal.returns-clause-settled
returns-clause-settled c =
    let slots = c.args.slots.now in
    let es = c.args.known.now in
    let steps = steps_plus (nodes_of slots) c.args.extra in
    let s : Slot = c.index-slots-at.result in
    let i = c.in-Some.at in
    let id = found_slot slots i s c.args.region c.in-Some.ensures.1 in
    let given = c.in-Some-stepped_plus.ensures ∙ ap (λ (t : Slot). stepped (told_of slots es) (steps t.node.id)) c.index-slots-at.is
    ∙ ap (λ q. stepped (told_of slots es) (steps q)) id in
    replaced_if steps slots es c.replace.new.known i s c.in-Some-stepped_plus.extent c.args.region c.requires.ascending c.requires.all c.in-Some.ensures.0
    (ap (λ (q : RegionId). q.0) id) given c.in_ok-changed.changed c.in_ok-changed.ensures.set c.in_ok-changed.ensures.same
