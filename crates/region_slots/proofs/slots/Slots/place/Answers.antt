use Rattle.std.specs.Prelude.{insert}
use Rattle.std.proofs.Common.{◌≡◌, ◌∙◌, ◌-◌, refl, sym, ap, subst, w32}
use Rattle.std.proofs.lemmas.Int.{to_z-of_z}
use Rattle.mem_base.specs.declared.map.forests.Node.{Node}
use Rattle.mem_base.specs.map.Region.{node_of}
use Rattle.mem_base.specs.map.Order.{children_of}
use Rattle.mem_base.specs.map.Changes.{changed_at, placed}
use Rattle.region_slots.specs.declared.slots.Slot.{Slot}
use Rattle.region_slots.specs.declared.children.Child.{Child}
use Rattle.region_slots.specs.Slots.{nodes_of, placed_of, rank_in, AreIn, AreByPriority}
use Rattle.region_slots.proofs.SlotsLaws.{found_node, children_at, pair_kept, pair_nodes, placed_here, placed_elsewhere, children_by_priority}
use Rattle.region_slots.proofs.slots.Slots.place.Goals as goal

pub rank-rank-requires : goal.rank-rank-requires
rank-rank-requires c =
    let slots = c.self.inside.items.items in
    let at_parent = rw c.deref.ensures.value at c.in-Some.ensures in
    let d : Slot = c.index-2.result.now in
    record {
      sorted = subst AreByPriority (ap (λ (t : Slot). t.children) (sym c.index-2.ensures))
          (children_by_priority slots c.in-Some.above d at_parent.0 c.self.invariant);
    }

pub invariant_of-self-2 : goal.invariant_of-self-2
invariant_of-self-2 c =
    let slots = c.self.inside.items.items in
    let nodes = nodes_of slots in
    let kept = c.self.invariant in
    let s : Slot = c.index_mut.result.now in
    let at_parent = rw c.deref.ensures.value at c.in-Some.ensures in
    let at_child = rw c.deref-2.ensures.value at c.in-Some-place_of.ensures in
    let f = c.requires.forest.0 in
    let in_forest = subst (λ ns. AreIn f ns c.args.placing) (sym c.self.view_is) c.requires.forest.1 in
    let m = c.requires.child.0 in
    let there = ap (λ ns. node_of ns c.args.child) c.self.view_is ∙ c.requires.child.1 in
    let same = to_z-of_z w32 c.args.priority c.ranges.priority in
    let listed : s.children ≡ placed_of (children_of nodes c.args.parent) = ap (λ (t : Slot). t.children) c.index_mut.ensures.value
    ∙ children_at slots c.in-Some.above s c.args.parent at_parent.0 (at_parent.1 s) kept in
    let seen : c.index-2.result.now.children ≡ s.children = ap (λ (t : Slot). t.children) c.index-2.ensures
    ∙ children_at slots c.in-Some.above _ c.args.parent at_parent.0 (at_parent.1 _) kept ∙ sym listed in
    let ranked : c.rank-rank.result ≡ rank_in c.args.priority s.children = (rw same at c.rank-rank.ensures.rank) ∙ ap (rank_in c.args.priority) seen in
    let read = c.index.result.now in
    let last : c.last_in-last.result ≡ m.size - 1 = c.last_in-last.ensures ∙ ap (λ (t : Slot). t.node.size - 1) c.index.ensures
    ∙ ap (λ (n : Node). n.size - 1) (found_node nodes c.args.child m slots c.in-Some-place_of.below at_child.1 there read) in
    let here = (rw same at c.in_ok-insert.ensures.ok)
    ∙ ap (λ k. insert s.children c.rank-rank.result
    (let x : Child = record { id = c.args.child; offset = c.args.offset; last = k; priority = c.args.priority } in x)) last
    ∙ placed_here f nodes c.args.parent c.args.offset c.args.child c.args.priority c.args.placing in_forest m there c.requires.child.2 s.children
    c.rank-rank.result listed ranked in
    rw same (pair_kept slots kept c.args.parent c.args.child c.in-Some.above c.in-Some-place_of.below s c.index_mut-2.result.now c.insert.new.self
    at_parent.0 at_child.0 (at_parent.1 s) (at_child.1 s)
    (placed c.args.parent c.args.offset c.args.priority c.args.placing) (λ n. refl) c.index_mut.ensures.value c.index_mut-2.ensures.value here
    (placed_elsewhere f nodes c.args.parent c.args.offset c.args.child c.args.priority c.args.placing in_forest m there c.requires.child.2))

pub returns-clause-ok : goal.returns-clause-ok
returns-clause-ok c =
    let slots = c.self.inside.items.items in
    let nodes = nodes_of slots in
    let kept = c.self.invariant in
    let s : Slot = c.index_mut.result.now in
    let at_parent = rw c.deref.ensures.value at c.in-Some.ensures in
    let at_child = rw c.deref-2.ensures.value at c.in-Some-place_of.ensures in
    let f = c.requires.forest.0 in
    let in_forest = subst (λ ns. AreIn f ns c.args.placing) (sym c.self.view_is) c.requires.forest.1 in
    let m = c.requires.child.0 in
    let there = ap (λ ns. node_of ns c.args.child) c.self.view_is ∙ c.requires.child.1 in
    let same = to_z-of_z w32 c.args.priority c.ranges.priority in
    let listed : s.children ≡ placed_of (children_of nodes c.args.parent) = ap (λ (t : Slot). t.children) c.index_mut.ensures.value
    ∙ children_at slots c.in-Some.above s c.args.parent at_parent.0 (at_parent.1 s) kept in
    let seen : c.index-2.result.now.children ≡ s.children = ap (λ (t : Slot). t.children) c.index-2.ensures
    ∙ children_at slots c.in-Some.above _ c.args.parent at_parent.0 (at_parent.1 _) kept ∙ sym listed in
    let ranked : c.rank-rank.result ≡ rank_in c.args.priority s.children = (rw same at c.rank-rank.ensures.rank) ∙ ap (rank_in c.args.priority) seen in
    let read = c.index.result.now in
    let last : c.last_in-last.result ≡ m.size - 1 = c.last_in-last.ensures ∙ ap (λ (t : Slot). t.node.size - 1) c.index.ensures
    ∙ ap (λ (n : Node). n.size - 1) (found_node nodes c.args.child m slots c.in-Some-place_of.below at_child.1 there read) in
    let here = (rw same at c.in_ok-insert.ensures.ok)
    ∙ ap (λ k. insert s.children c.rank-rank.result
    (let x : Child = record { id = c.args.child; offset = c.args.offset; last = k; priority = c.args.priority } in x)) last
    ∙ placed_here f nodes c.args.parent c.args.offset c.args.child c.args.priority c.args.placing in_forest m there c.requires.child.2 s.children
    c.rank-rank.result listed ranked in
    let g = placed c.args.parent c.args.offset c.args.priority c.args.placing in
    rw same (pair_nodes slots kept c.args.parent c.args.child c.in-Some.above c.in-Some-place_of.below s c.index_mut-2.result.now c.insert.new.self
    at_parent.0 at_child.0 (at_parent.1 s) (at_child.1 s)
    g (λ n. refl) c.index_mut.ensures.value c.index_mut-2.ensures.value here
    (placed_elsewhere f nodes c.args.parent c.args.offset c.args.child c.args.priority c.args.placing in_forest m there c.requires.child.2)
    ∙ ap (changed_at c.args.child g) c.self.view_is)
