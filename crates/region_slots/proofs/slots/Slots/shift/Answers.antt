use Rattle.std.specs.Prelude.{insert}
use Rattle.std.proofs.Common.{◌≡◌, ◌≢◌, ◌∙◌, ◌-◌, ◌<◌, ℕ, List, length, false, cond, eqb, refl, sym, ap, subst, Some, set}
use Rattle.std.proofs.Common.{get_or, w32, arith, rules}
use mir.Val.{SFits}
use Rattle.std.proofs.lemmas.Int.{to_z-of_z}
use Rattle.std.proofs.lemmas.Bool.Decides.{nat_tests}
use Rattle.mem_base.specs.declared.map.ids.RegionId.{RegionId}
use Rattle.mem_base.specs.declared.map.forests.Node.{Node}
use Rattle.mem_base.specs.map.Region.{node_of}
use Rattle.mem_base.specs.map.Order.{children_of}
use Rattle.mem_base.specs.map.Changes.{changed_at, moved}
use Rattle.region_slots.specs.declared.slots.Slot.{Slot}
use Rattle.region_slots.specs.declared.children.Child.{Child}
use Rattle.region_slots.specs.Slots.{nodes_of, placed_of, rank_in, others, AreKept, AreByPriority}
use Rattle.region_slots.proofs.SlotsLaws.{found_node, children_at, pair_kept, pair_nodes, pair_read, moved_nowhere, moved_here}
use Rattle.region_slots.proofs.SlotsLaws.{moved_elsewhere, children_by_priority}
use Rattle.region_slots.proofs.slots.Slots.shift.Goals as goal
use Rattle.std.proofs.lemmas.Bool.{eq-eqb}
use Rattle.map_laws.proofs.MoveLaws.{moved_id}

differ : (a b : ℕ) → a ≢ b → eqb a b ≡ false
differ a b h = grind (arith, nat_tests)

pub returns-then-index-offset-clause-ok : goal.returns-then-index-offset-clause-ok
returns-then-index-offset-clause-ok c =
    let f = c.requires.forest.0 in
    let in_forest = c.requires.forest.1 in
    let m = c.requires.child.0 in
    let there = ap (λ ns. node_of ns c.args.child) in_forest.same_nodes ∙ c.requires.child.2 in
    let at_child = rw c.deref.ensures.value at c.in-Some.ensures in
    let read = c.index.result.now in
    let told : Some (get_or c.self.inside.items.items c.in-Some.below read).node ≡ Some m = sym (at_child.1 read)
    ∙ ap (λ ns. node_of ns c.args.child) c.self.view_is ∙ c.requires.child.2 in
    let same : (get_or c.self.inside.items.items c.in-Some.below read).node ≡ m = cc in
    let offset : m.offset ≡ c.args.offset = ap (λ (n : Node). n.offset) (sym same) ∙ ap (λ (s : Slot). s.node.offset) (sym c.index.ensures)
    ∙ c.if-index-offset.true in
    subst (λ ns. ns ≡ changed_at c.args.child (moved c.args.offset c.args.placing) ns) in_forest.same_nodes
    (moved_nowhere f c.args.placing in_forest.forest in_forest.same_placings c.args.child c.args.offset m there (eq-eqb _ _ offset))

pub replace-requires : goal.replace-requires
replace-requires c =
    let slots = c.self.inside.items.items in
    let at_parent = rw c.deref-2.ensures.value at c.in-Some-place_of.ensures in
    let d : Slot = c.index_mut.result.now in
    subst AreByPriority (sym (ap (λ (u : Slot). u.children) c.index_mut.ensures.value))
    (children_by_priority slots c.in-Some-place_of.above d at_parent.0 c.self.invariant)

pub invariant_of-self-2 : goal.invariant_of-self-2
invariant_of-self-2 c =
    let slots = c.self.inside.items.items in
    let nodes = nodes_of slots in
    let kept = c.self.invariant in
    let child = c.args.child in
    let offset = c.args.offset in
    let f = c.requires.forest.0 in
    let in_forest = c.requires.forest.1 in
    let seen : f.nodes ≡ nodes = in_forest.same_nodes ∙ sym c.self.view_is in
    let m = c.requires.child.0 in
    let p : RegionId = c.in-Some-parent.parent in
    let below : ℕ = c.in-Some.below in
    let above : ℕ = c.in-Some-place_of.above in
    let s : Slot = c.index_mut.result.now in
    let t : Slot = c.index_mut-2.result.now in
    let list : List Child = others child s.children in
    let there : node_of f.nodes child ≡ Some m = ap (λ ns. node_of ns child) in_forest.same_nodes ∙ c.requires.child.2 in
    let at_child : (below < length slots) × ((d : Slot) → node_of nodes child ≡ Some (get_or slots below d).node) =
    rw c.deref.ensures.value at c.in-Some.ensures in
    let at_parent : (above < length slots) × ((d : Slot) → node_of nodes p ≡ Some (get_or slots above d).node) =
    rw c.deref-2.ensures.value at c.in-Some-place_of.ensures in
    let read = found_node nodes child m slots below at_child.1 (ap (λ ns. node_of ns child) (sym seen) ∙ there) in
    let in_parent : m.parent ≡ Some p = ap (λ (n : Node). n.parent) (sym (read c.index-2.result.now))
    ∙ ap (λ (u : Slot). u.node.parent) (sym c.index-2.ensures) ∙ c.in-Some-parent.is in
    let at : eqb m.offset offset ≡ false = differ m.offset offset
    (λ e. c.if-index-offset.false (ap (λ (u : Slot). u.node.offset) c.index.ensures ∙ ap (λ (n : Node). n.offset) (read c.index.result.now) ∙ e)) in
    let listed : list ≡ others child (placed_of (children_of f.nodes p)) = ap (λ (u : Slot). others child u.children) c.index_mut.ensures.value
    ∙ ap (others child) (children_at slots above s p at_parent.0 (at_parent.1 s) kept)
    ∙ ap (λ ns. others child (placed_of (children_of ns p))) (sym seen) in
    let fits : SFits w32 c.index-3.result.now.node.priority = search rules in
    let same = to_z-of_z w32 c.index-3.result.now.node.priority fits in
    let priority : c.index-3.result.now.node.priority ≡ m.priority = ap (λ (u : Slot). u.node.priority) c.index-3.ensures
    ∙ ap (λ (n : Node). n.priority) (read c.index-3.result.now) in
    let last : c.last_in-last.result ≡ m.size - 1 = c.last_in-last.ensures ∙ ap (λ (u : Slot). u.node.size - 1) c.index-4.ensures
    ∙ ap (λ (n : Node). n.size - 1) (read c.index-4.result.now) in
    let ranked : rank_in m.priority list ≡ rank_in m.priority list = refl in
    let g = moved offset c.args.placing in
    let here : c.replace.new.self ≡ placed_of (children_of (changed_at child g nodes) p) = (rw same at c.in_ok-replace.ensures.ok)
    ∙ ap (λ k. insert list (rank_in k list) (let x : Child = record { id = child; offset = offset; last = c.last_in-last.result; priority = k } in x)) priority
    ∙ ap (λ k. insert list (rank_in m.priority list) (let x : Child = record { id = child; offset = offset; last = k; priority = m.priority } in x)) last
    ∙ moved_here f c.args.placing in_forest.forest in_forest.same_placings child offset m there p in_parent list
    (rank_in m.priority list) at listed ranked ∙ ap (λ ns. placed_of (children_of (changed_at child g ns) p)) seen in
    let elsewhere : (q : RegionId) → q.0 ≢ p.0 →
    children_of (changed_at child g nodes) q ≡ children_of nodes q =
    subst (λ ns. (q : RegionId) → q.0 ≢ p.0 → children_of (changed_at child g ns) q ≡ children_of ns q) seen
    (moved_elsewhere f c.args.placing in_forest.forest in_forest.same_placings child offset m there p in_parent) in
    let keeps : (n : Node) → (g n).id ≡ n.id = moved_id offset c.args.placing in
    let at_t : t.node ≡ m = pair_read slots kept p child above below s t c.replace.new.self at_parent.0 at_child.0 (at_parent.1 s)
    (at_child.1 s) g keeps c.index_mut.ensures.value c.index_mut-2.ensures.value here elsewhere ∙ read s in
    let written : g t.node ≡ record t.node { offset = offset; placing = c.args.placing } =
    ap (λ b. cond b t.node (let n : Node = record t.node { offset = offset; placing = c.args.placing } in n))
    (ap (λ (n : Node). eqb n.offset offset) at_t ∙ at) in
    subst (λ (n : Node). AreKept (set (set slots above (let u : Slot = record { node = s.node; children = c.replace.new.self } in u)) below
    (let u : Slot = record { node = n; children = t.children } in u))) written
    (pair_kept slots kept p child above below s t c.replace.new.self at_parent.0 at_child.0 (at_parent.1 s)
    (at_child.1 s) g keeps c.index_mut.ensures.value c.index_mut-2.ensures.value here elsewhere)

pub returns-clause-ok : goal.returns-clause-ok
returns-clause-ok c =
    let slots = c.self.inside.items.items in
    let nodes = nodes_of slots in
    let kept = c.self.invariant in
    let child = c.args.child in
    let offset = c.args.offset in
    let f = c.requires.forest.0 in
    let in_forest = c.requires.forest.1 in
    let seen : f.nodes ≡ nodes = in_forest.same_nodes ∙ sym c.self.view_is in
    let m = c.requires.child.0 in
    let p : RegionId = c.in-Some-parent.parent in
    let below : ℕ = c.in-Some.below in
    let above : ℕ = c.in-Some-place_of.above in
    let s : Slot = c.index_mut.result.now in
    let t : Slot = c.index_mut-2.result.now in
    let list : List Child = others child s.children in
    let there : node_of f.nodes child ≡ Some m = ap (λ ns. node_of ns child) in_forest.same_nodes ∙ c.requires.child.2 in
    let at_child : (below < length slots) × ((d : Slot) → node_of nodes child ≡ Some (get_or slots below d).node) =
    rw c.deref.ensures.value at c.in-Some.ensures in
    let at_parent : (above < length slots) × ((d : Slot) → node_of nodes p ≡ Some (get_or slots above d).node) =
    rw c.deref-2.ensures.value at c.in-Some-place_of.ensures in
    let read = found_node nodes child m slots below at_child.1 (ap (λ ns. node_of ns child) (sym seen) ∙ there) in
    let in_parent : m.parent ≡ Some p = ap (λ (n : Node). n.parent) (sym (read c.index-2.result.now))
    ∙ ap (λ (u : Slot). u.node.parent) (sym c.index-2.ensures) ∙ c.in-Some-parent.is in
    let at : eqb m.offset offset ≡ false = differ m.offset offset
    (λ e. c.if-index-offset.false (ap (λ (u : Slot). u.node.offset) c.index.ensures ∙ ap (λ (n : Node). n.offset) (read c.index.result.now) ∙ e)) in
    let listed : list ≡ others child (placed_of (children_of f.nodes p)) = ap (λ (u : Slot). others child u.children) c.index_mut.ensures.value
    ∙ ap (others child) (children_at slots above s p at_parent.0 (at_parent.1 s) kept)
    ∙ ap (λ ns. others child (placed_of (children_of ns p))) (sym seen) in
    let fits : SFits w32 c.index-3.result.now.node.priority = search rules in
    let same = to_z-of_z w32 c.index-3.result.now.node.priority fits in
    let priority : c.index-3.result.now.node.priority ≡ m.priority = ap (λ (u : Slot). u.node.priority) c.index-3.ensures
    ∙ ap (λ (n : Node). n.priority) (read c.index-3.result.now) in
    let last : c.last_in-last.result ≡ m.size - 1 = c.last_in-last.ensures ∙ ap (λ (u : Slot). u.node.size - 1) c.index-4.ensures
    ∙ ap (λ (n : Node). n.size - 1) (read c.index-4.result.now) in
    let ranked : rank_in m.priority list ≡ rank_in m.priority list = refl in
    let g = moved offset c.args.placing in
    let here : c.replace.new.self ≡ placed_of (children_of (changed_at child g nodes) p) = (rw same at c.in_ok-replace.ensures.ok)
    ∙ ap (λ k. insert list (rank_in k list) (let x : Child = record { id = child; offset = offset; last = c.last_in-last.result; priority = k } in x)) priority
    ∙ ap (λ k. insert list (rank_in m.priority list) (let x : Child = record { id = child; offset = offset; last = k; priority = m.priority } in x)) last
    ∙ moved_here f c.args.placing in_forest.forest in_forest.same_placings child offset m there p in_parent list
    (rank_in m.priority list) at listed ranked ∙ ap (λ ns. placed_of (children_of (changed_at child g ns) p)) seen in
    let elsewhere : (q : RegionId) → q.0 ≢ p.0 →
    children_of (changed_at child g nodes) q ≡ children_of nodes q =
    subst (λ ns. (q : RegionId) → q.0 ≢ p.0 → children_of (changed_at child g ns) q ≡ children_of ns q) seen
    (moved_elsewhere f c.args.placing in_forest.forest in_forest.same_placings child offset m there p in_parent) in
    let keeps : (n : Node) → (g n).id ≡ n.id = moved_id offset c.args.placing in
    let at_t : t.node ≡ m = pair_read slots kept p child above below s t c.replace.new.self at_parent.0 at_child.0 (at_parent.1 s)
    (at_child.1 s) g keeps c.index_mut.ensures.value c.index_mut-2.ensures.value here elsewhere ∙ read s in
    let written : g t.node ≡ record t.node { offset = offset; placing = c.args.placing } =
    ap (λ b. cond b t.node (let n : Node = record t.node { offset = offset; placing = c.args.placing } in n))
    (ap (λ (n : Node). eqb n.offset offset) at_t ∙ at) in
    ap (λ (n : Node). nodes_of (set (set slots above (let u : Slot = record { node = s.node; children = c.replace.new.self } in u)) below
    (let u : Slot = record { node = n; children = t.children } in u))) (sym written)
    ∙ pair_nodes slots kept p child above below s t c.replace.new.self at_parent.0 at_child.0 (at_parent.1 s)
    (at_child.1 s) g keeps c.index_mut.ensures.value c.index_mut-2.ensures.value here elsewhere
    ∙ ap (changed_at child g) c.self.view_is
