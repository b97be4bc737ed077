use Rattle.std.proofs.Common.{◌∙◌, ◌∷◌, [], ◌++◌, ap, cond, get_or, false}
use Rattle.std.proofs.lemmas.List.{take_all}
use Rattle.region_slots.specs.declared.slots.Slot.{Slot}
use Rattle.region_slots.specs.Slots.{nodes_of}
use Rattle.region_tree.specs.Reach.{picked}
use Rattle.region_tree.proofs.PickedLaws.{picked_slots}
use Rattle.region_tree.proofs.tree.picked.Goals as goal

pub loop-at-preserved : goal.loop-at-preserved
loop-at-preserved c =
    let slots = c.args.slots.now in
    let at = c.loop-at.at in
    picked_slots slots c.args.marks.now at c.index-slots-at.result false c.loop-at.list.items c.pick.new.list.items c.requires c.loop-at-test.true
    c.loop-at.invariant
    (c.in_ok-pick.ensures ∙ ap (λ (s : Slot). c.loop-at.list.items ++ cond (get_or c.args.marks.now at false) (s.node.id ∷ []) []) c.index-slots-at.is)

pub returns : goal.returns
returns c = c.loop-at.invariant ∙ ap (λ ss. picked (nodes_of ss) c.args.marks.now) (take_all c.loop-at.at c.args.slots.now c.loop-at-test.false)
