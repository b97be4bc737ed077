use Rattle.std.proofs.Common.{◌∙◌, ap}
use Rattle.mem_base.specs.map.Order.{children_of}
use Rattle.region_slots.specs.declared.slots.Slot.{Slot}
use Rattle.region_slots.specs.Slots.{placed_of}
use Rattle.region_slots.proofs.SlotsLaws.{children_at}
use Rattle.region_slots.proofs.slots.Slots.children.Goals as goal

pub returns : goal.returns
returns c =
    let found = rw c.deref.ensures.value at c.in-Some.ensures in
    let here = c.index.result.now in
    ap (λ (s : Slot). s.children) c.index.ensures
    ∙ children_at c.self.inside.items.items c.in-Some.i here c.args.region found.0 (found.1 here) c.self.invariant
    ∙ ap (λ ns. placed_of (children_of ns c.args.region)) c.self.view_is
