use Rattle.std.proofs.Common.{◌≡◌, ◌∙◌, ◌<◌, sym, ap, refl, subst, get_or, length, true, false, Some}
use Rattle.mem_base.specs.declared.map.ids.RegionId.{RegionId}
use Rattle.mem_base.specs.declared.map.forests.Node.{Node}
use Rattle.mem_base.specs.lists.Every.{Every}
use Rattle.mem_base.specs.map.Region.{node_of, is_in}
use Rattle.mem_base.specs.map.Order.{children_of}
use Rattle.mem_base.specs.map.Changes.{changed_at}
use Rattle.region_slots.specs.declared.slots.Slot.{Slot}
use Rattle.region_slots.specs.Slots.{nodes_of, placed_of, resized}
use Rattle.region_slots.proofs.PlaceLaws.{found_there}
use Rattle.region_slots.proofs.SlotsLaws.{get_or-default, children_at, field_nodes, unlisted_kept, missing_same, pair_kept, pair_nodes}
use Rattle.region_slots.proofs.ResizeLaws.{sized, resized_here, resized_beside, resized_nowhere}
use Rattle.region_slots.proofs.slots.Slots.resize.Goals as goal

pub returns-in_default : goal.returns-in_default
returns-in_default c =
    let none = rw c.deref.ensures.value at c.in_default.ensures in
    missing_same c.args.region (sized c.args.region c.args.size) c.args.self.now (ap (λ ns. node_of ns c.args.region) (sym c.self.view_is) ∙ none)

pub invariant_of-self-in-None : goal.invariant_of-self-in-None
invariant_of-self-in-None c =
    let slots = c.self.inside.items.items in
    let nodes = nodes_of slots in
    let r = c.args.region in
    let g = sized r c.args.size in
    let below = c.in-Some.below in
    let at = rw c.deref.ensures.value at c.in-Some.ensures in
    let s : Slot = c.index_mut-in-None.result.now in
    let out : Every (λ (t : Slot). is_in t.node.id c.index.result.now.node.parent ≡ false) slots = rw c.deref-2.ensures.value at c.in-None.ensures in
    let same : c.index.result.now.node.parent ≡ (get_or slots below s).node.parent =
    ap (λ (t : Slot). t.node.parent) (c.index.ensures ∙ get_or-default slots below c.index.result.now s at.0) in
    let nowhere : Every (λ (t : Slot). is_in t.node.id (get_or slots below s).node.parent ≡ false) slots =
    subst (λ p. Every (λ (t : Slot). is_in t.node.id p ≡ false) slots) same out in
    unlisted_kept slots c.self.invariant below s c.index_mut-in-None.ensures.value r at.0 (at.1 s) g (λ n. refl)
    (resized_nowhere r c.args.size nodes (get_or slots below s).node c.self.invariant.ascending (at.1 s) slots nowhere)

pub returns-in-None : goal.returns-in-None
returns-in-None c =
    let slots = c.self.inside.items.items in
    let g = sized c.args.region c.args.size in
    let at = rw c.deref.ensures.value at c.in-Some.ensures in
    let s : Slot = c.index_mut-in-None.result.now in
    field_nodes slots c.self.invariant c.in-Some.below s c.index_mut-in-None.ensures.value c.args.region at.0 (at.1 s) g
    ∙ ap (changed_at c.args.region g) c.self.view_is

pub invariant_of-self : goal.invariant_of-self
invariant_of-self c =
    let slots = c.self.inside.items.items in
    let nodes = nodes_of slots in
    let kept = c.self.invariant in
    let r = c.args.region in
    let size = c.args.size in
    let g = sized r size in
    let below = c.in-Some.below in
    let above = c.in-Some-place_of_container.above in
    let at = rw c.deref.ensures.value at c.in-Some.ensures in
    let s : Slot = c.index_mut.result.now in
    let t : Slot = c.index_mut-in-Some-place_of_container.result.now in
    let m : Node = (get_or slots below s).node in
    let around : (above < length slots) × ((d : Slot) → is_in (get_or slots above d).node.id c.index.result.now.node.parent ≡ true) =
    rw c.deref-2.ensures.value at c.in-Some-place_of_container.ensures in
    let same : c.index.result.now.node.parent ≡ m.parent =
    ap (λ (u : Slot). u.node.parent) (c.index.ensures ∙ get_or-default slots below c.index.result.now s at.0) in
    let parent : RegionId = (get_or slots above s).node.id in
    let inside : is_in parent m.parent ≡ true = subst (λ p. is_in parent p ≡ true) same (around.1 s) in
    let at_parent : node_of nodes parent ≡ Some (get_or slots above s).node = found_there slots above s parent around.0 kept.ascending refl in
    let listed : s.children ≡ placed_of (children_of nodes parent) = ap (λ (u : Slot). u.children) c.index_mut.ensures.value
    ∙ children_at slots above s parent around.0 at_parent kept in
    let here = c.resize.ensures ∙ ap (λ k. resized r k s.children) c.last_in.ensures ∙ resized_here r size nodes parent s.children listed in
    pair_kept slots kept parent r above below s t c.resize.new.self around.0 at.0 at_parent (at.1 s) g (λ n. refl)
    c.index_mut.ensures.value c.index_mut-in-Some-place_of_container.ensures.value here
    (λ q apart. resized_beside r size nodes m kept.ascending (at.1 s) parent q inside apart)

pub returns-in-Some-place_of_container : goal.returns-in-Some-place_of_container
returns-in-Some-place_of_container c =
    let slots = c.self.inside.items.items in
    let nodes = nodes_of slots in
    let kept = c.self.invariant in
    let r = c.args.region in
    let size = c.args.size in
    let g = sized r size in
    let below = c.in-Some.below in
    let above = c.in-Some-place_of_container.above in
    let at = rw c.deref.ensures.value at c.in-Some.ensures in
    let s : Slot = c.index_mut.result.now in
    let t : Slot = c.index_mut-in-Some-place_of_container.result.now in
    let m : Node = (get_or slots below s).node in
    let around : (above < length slots) × ((d : Slot) → is_in (get_or slots above d).node.id c.index.result.now.node.parent ≡ true) =
    rw c.deref-2.ensures.value at c.in-Some-place_of_container.ensures in
    let same : c.index.result.now.node.parent ≡ m.parent =
    ap (λ (u : Slot). u.node.parent) (c.index.ensures ∙ get_or-default slots below c.index.result.now s at.0) in
    let parent : RegionId = (get_or slots above s).node.id in
    let inside : is_in parent m.parent ≡ true = subst (λ p. is_in parent p ≡ true) same (around.1 s) in
    let at_parent : node_of nodes parent ≡ Some (get_or slots above s).node = found_there slots above s parent around.0 kept.ascending refl in
    let listed : s.children ≡ placed_of (children_of nodes parent) = ap (λ (u : Slot). u.children) c.index_mut.ensures.value
    ∙ children_at slots above s parent around.0 at_parent kept in
    let here = c.resize.ensures ∙ ap (λ k. resized r k s.children) c.last_in.ensures ∙ resized_here r size nodes parent s.children listed in
    pair_nodes slots kept parent r above below s t c.resize.new.self around.0 at.0 at_parent (at.1 s) g (λ n. refl)
    c.index_mut.ensures.value c.index_mut-in-Some-place_of_container.ensures.value here
    (λ q apart. resized_beside r size nodes m kept.ascending (at.1 s) parent q inside apart)
    ∙ ap (changed_at r g) c.self.view_is
