use Rattle.std.proofs.Common.{◌≡◌, ◌∙◌, ap, sym, subst, get_or, filter, Some, None}
use Rattle.std.specs.Prelude.{not}
use Rattle.mem_base.specs.declared.map.forests.Node.{Node}
use Rattle.mem_base.specs.map.Region.{node_of, has_id}
use Rattle.region_slots.specs.declared.slots.Slot.{Slot}
use Rattle.region_slots.specs.Slots.{nodes_of, AreKept}
use Rattle.region_slots.proofs.SlotsLaws.{removed_nodes, removed_kept}
use Rattle.region_slots.proofs.slots.Slots.remove.Goals as goal

pub invariant_of-self : goal.invariant_of-self
invariant_of-self c =
    let slots = c.self.inside.items.items in
    let found = rw c.deref.ensures.value at c.in-Some.ensures in
    let d : Slot = c.remove.result in
    let m = (get_or slots c.in-Some.i d).node in
    let told : Some m ≡ Some c.requires.free.0 = sym (found.1 d) ∙ ap (λ ns. node_of ns c.args.region) c.self.view_is ∙ c.requires.free.1 in
    let same : m ≡ c.requires.free.0 = cc in
    let free : m.parent ≡ None = ap (λ (n : Node). n.parent) same ∙ c.requires.free.2 in
    subst AreKept (sym c.remove.ensures.items) (removed_kept slots c.self.invariant c.in-Some.i d c.args.region found.0 (found.1 d) free)

pub returns-in-Some : goal.returns-in-Some
returns-in-Some c =
    let slots = c.self.inside.items.items in
    let found = rw c.deref.ensures.value at c.in-Some.ensures in
    let d : Slot = c.remove.result in
    ap nodes_of c.remove.ensures.items ∙ removed_nodes slots c.self.invariant c.in-Some.i d c.args.region found.0 (found.1 d)
    ∙ ap (filter (λ (n : Node). not (has_id c.args.region n))) c.self.view_is
