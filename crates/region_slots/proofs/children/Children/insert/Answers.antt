use Rattle.std.proofs.Common.{◌∙◌, ap, sym}
use Rattle.std.specs.Prelude.{insert}
use Rattle.region_slots.specs.Slots.{ids_in}
use Rattle.region_slots.proofs.SlotsLaws.{ids_insert}
use Rattle.region_slots.proofs.children.Children.insert.Goals as goal

pub invariant_of-self-2 : goal.invariant_of-self-2
invariant_of-self-2 c =
    let ids = c.in_ok-insert.ensures.items in
    let placed = c.in-Ok.ensures.items in
    let before = c.in_ok-reserve.ensures.items in
    ids ∙ ap (λ l. insert l c.args.rank c.args.child.id) c.self.invariant
    ∙ sym (ids_insert c.self.inside.placed.items c.args.rank c.args.child)
    ∙ ap (λ l. ids_in (insert l c.args.rank c.args.child)) (sym before) ∙ ap ids_in (sym placed)
