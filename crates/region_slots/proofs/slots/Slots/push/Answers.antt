use Rattle.std.proofs.Common.{◌≡◌, ◌<◌, sym, subst, []}
use Rattle.mem_base.specs.declared.map.forests.Node.{Node}
use Rattle.mem_base.specs.lists.Every.{Every}
use Rattle.mem_base.specs.map.Order.{children_of}
use Rattle.region_slots.specs.declared.slots.Slot.{Slot}
use Rattle.region_slots.specs.Slots.{AreKept}
use Rattle.region_slots.proofs.SlotsLaws.{pushed_kept}
use Rattle.region_slots.proofs.slots.Slots.push.Goals as goal

pub invariant_of-self-2 : goal.invariant_of-self-2
invariant_of-self-2 c =
    let n = c.args.node in
    let s : Slot = record { node = n; children = c.new-children.result } in
    let last = subst (Every (λ (m : Node). m.id.0 < n.id.0)) (sym c.self.view_is) c.requires.last in
    let none = subst (λ ns. children_of ns n.id ≡ []) (sym c.self.view_is) c.requires.childless in
    subst AreKept (sym c.in_ok-push.ensures.items) (pushed_kept c.self.inside.items.items s c.self.invariant last c.requires.free none c.new-children.ensures)
