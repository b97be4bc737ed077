use Rattle.std.proofs.Common.{◌∙◌, sym, ap, Some}
use Rattle.std.specs.Prelude.{is_some}
use Rattle.mem_base.specs.declared.map.ids.RegionId.{RegionId}
use Rattle.region_slots.specs.declared.slots.Slot.{Slot}
use Rattle.region_slots.specs.Slots.{nodes_of}
use Rattle.region_extents.specs.declared.extents.Extent.{Extent}
use Rattle.region_extents.specs.Extents.{told_of}
use Rattle.region_extents.specs.Kept.{steps_plus, with_child}
use Rattle.region_extents.proofs.SettledLaws.{told_there}
use Rattle.region_extents.proofs.RaiseLaws.{replaced_settled, found_slot, first_given}
use Rattle.region_extents.proofs.JoinedLaws.{kept_but_parent}
use Rattle.region_extents.proofs.kept.joined.Goals as goal
use Rattle.region_slots.proofs.SlotsLaws.{some_element}

pub await_users-requires-clause-there : goal.await_users-requires-clause-there
await_users-requires-clause-there c =
    let slots = c.args.slots.now in
    ap is_some (c.in-Some.ensures.1 (some_element slots c.in-Some.at c.in-Some.ensures.0))

pub raise-requires-clause-others : goal.raise-requires-clause-others
raise-requires-clause-others c v h =
    let slots = c.args.slots.now in
    let nodes = nodes_of slots in
    let es = c.args.known.now in
    let join = c.args.join in
    let i = c.in-Some.at in
    let l = c.in-Some.ensures.0 in
    let d : Slot = some_element slots i l in
    let none : Extent = record { depth = 0; weight = 0 } in
    let id = ap (λ (q : RegionId). q.0) (found_slot slots i d join.parent c.in-Some.ensures.1) in
    let told = told_of slots es in
    let given =
    c.in-Some-joined_extent.ensures
    ∙ ap (λ x. with_child x c.told.result) (sym (told_there slots es i d none join.parent c.requires.ascending c.requires.all l id))
    ∙ ap (with_child (told join.parent)) c.told.ensures
    ∙ first_given nodes join told (c.requires.settled join.parent) in
    let put = rw c.in-Some-2.is at c.in_ok-changed.ensures.set in
    let same = rw c.in-Some-2.is at c.in_ok-changed.ensures.same in
    replaced_settled (steps_plus nodes (Some join)) slots es c.replace.new.known i d c.in-Some-joined_extent.extent join.parent c.requires.ascending
    c.requires.all l id given put c.in-Some-2.changed same v
    (kept_but_parent slots join es c.requires.settled v) (c.in_ok-await_users.ensures v h).1
