use Rattle.std.proofs.Common.{◌≡◌, ◌∙◌, refl, ap}
use Rattle.mem_base.specs.map.Region.{node_of}
use Rattle.mem_base.specs.map.Order.{children_of}
use Rattle.mem_base.specs.map.Changes.{changed_at}
use Rattle.region_slots.specs.declared.slots.Slot.{Slot}
use Rattle.region_slots.specs.Slots.{nodes_of, placed_of}
use Rattle.region_slots.proofs.SlotsLaws.{children_at, pair_kept, pair_nodes, loose, out_here, out_elsewhere}
use Rattle.region_slots.proofs.slots.Slots.take_out.Goals as goal

pub invariant_of-self : goal.invariant_of-self
invariant_of-self c =
    let slots = c.self.inside.items.items in
    let nodes = nodes_of slots in
    let kept = c.self.invariant in
    let s : Slot = c.index_mut.result.now in
    let at_parent = rw c.deref.ensures.value at c.in-Some.ensures in
    let at_child = rw c.deref-2.ensures.value at c.in-Some-place_of.ensures in
    let there = ap (λ ns. node_of ns c.args.child) c.self.view_is ∙ c.requires.child.1 in
    let listed : s.children ≡ placed_of (children_of nodes c.args.parent) = ap (λ (t : Slot). t.children) c.index_mut.ensures.value
    ∙ children_at slots c.in-Some.above s c.args.parent at_parent.0 (at_parent.1 s) kept in
    pair_kept slots kept c.args.parent c.args.child c.in-Some.above c.in-Some-place_of.below s c.index_mut-2.result.now c.remove.new.self at_parent.0
    at_child.0 (at_parent.1 s) (at_child.1 s)
    loose (λ n. refl) c.index_mut.ensures.value c.index_mut-2.ensures.value (c.remove.ensures ∙ out_here nodes c.args.parent c.args.child s.children listed)
    (out_elsewhere nodes c.args.parent c.args.child c.requires.child.0 kept.ascending there c.requires.child.2)

pub returns : goal.returns
returns c =
    let slots = c.self.inside.items.items in
    let nodes = nodes_of slots in
    let kept = c.self.invariant in
    let s : Slot = c.index_mut.result.now in
    let at_parent = rw c.deref.ensures.value at c.in-Some.ensures in
    let at_child = rw c.deref-2.ensures.value at c.in-Some-place_of.ensures in
    let there = ap (λ ns. node_of ns c.args.child) c.self.view_is ∙ c.requires.child.1 in
    let listed : s.children ≡ placed_of (children_of nodes c.args.parent) = ap (λ (t : Slot). t.children) c.index_mut.ensures.value
    ∙ children_at slots c.in-Some.above s c.args.parent at_parent.0 (at_parent.1 s) kept in
    pair_nodes slots kept c.args.parent c.args.child c.in-Some.above c.in-Some-place_of.below s c.index_mut-2.result.now c.remove.new.self at_parent.0
    at_child.0 (at_parent.1 s) (at_child.1 s)
    loose (λ n. refl) c.index_mut.ensures.value c.index_mut-2.ensures.value (c.remove.ensures ∙ out_here nodes c.args.parent c.args.child s.children listed)
    (out_elsewhere nodes c.args.parent c.args.child c.requires.child.0 kept.ascending there c.requires.child.2)
    ∙ ap (changed_at c.args.child loose) c.self.view_is
