use Rattle.std.proofs.Common.{◌∙◌, sym, subst}
use Rattle.std.proofs.lemmas.List.{take_all}
use Rattle.region_slots.specs.Slots.{AreKept}
use Rattle.region_slots.proofs.slots.Slots.try_copy.Goals as goal

pub invariant_of-result : goal.invariant_of-result
invariant_of-result c =
    let whole = c.loop-slot.invariant ∙ take_all c.loop-slot.slot-index c.as_slice-slot-items.result.now c.loop-slot-test.false
    ∙ c.as_slice-slot-items.ensures.value in
    subst AreKept (sym whole) c.self.invariant
