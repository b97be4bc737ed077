use Rattle.std.proofs.Common.{◌∙◌, sym, ap, subst, set}
use Rattle.mem_base.specs.declared.map.forests.Node.{Node}
use Rattle.mem_base.specs.map.Region.{node_of}
use Rattle.mem_base.specs.map.Changes.{changed_at}
use Rattle.mem_base.specs.map.Edits.{edited}
use Rattle.region_slots.specs.declared.slots.Slot.{Slot}
use Rattle.region_slots.specs.Slots.{nodes_of, AreKept}
use Rattle.region_slots.proofs.SlotsLaws.{field_nodes, field_kept, missing_same, edited_keeps}
use Rattle.region_slots.proofs.slots.Slots.edit_in_place.Goals as goal

pub invariant_of-self-in-Some : goal.invariant_of-self-in-Some
invariant_of-self-in-Some c =
    let slots = c.self.inside.items.items in
    let found = rw c.deref.ensures.value at c.in-Some.ensures in
    let s : Slot = c.index_mut.result.now in
    let kept = field_kept slots c.self.invariant c.in-Some.i s c.index_mut.ensures.value c.args.region found.0 (found.1 s) (edited c.args.call.now)
    (edited_keeps c.args.call.now c.requires.same_size) in
    subst (λ (n : Node). AreKept (set slots c.in-Some.i (let t : Slot = record { node = n; children = s.children } in t)))
    (sym c.in_ok-edit-in-Some.ensures.ok) kept

pub returns-in_ok-edit-in-Some-clause-ok : goal.returns-in_ok-edit-in-Some-clause-ok
returns-in_ok-edit-in-Some-clause-ok c =
    let slots = c.self.inside.items.items in
    let found = rw c.deref.ensures.value at c.in-Some.ensures in
    let s : Slot = c.index_mut.result.now in
    let g = edited c.args.call.now in
    ap (λ (n : Node). nodes_of (set slots c.in-Some.i (let t : Slot = record { node = n; children = s.children } in t))) c.in_ok-edit-in-Some.ensures.ok
    ∙ field_nodes slots c.self.invariant c.in-Some.i s c.index_mut.ensures.value c.args.region found.0 (found.1 s) g
    ∙ ap (changed_at c.args.region g) c.self.view_is

pub returns-in-None-clause-ok : goal.returns-in-None-clause-ok
returns-in-None-clause-ok c =
    let none = rw c.deref.ensures.value at c.in-None.ensures in
    missing_same c.args.region (edited c.args.call.now) c.args.self.now (ap (λ ns. node_of ns c.args.region) (sym c.self.view_is) ∙ none)
