use Rattle.std.proofs.Common.{◌≡◌, ◌<◌, length, get_or, sym, ap, subst, ◌∙◌}
use Rattle.std.proofs.lemmas.List.{get_or-map}
use Rattle.mem_base.specs.declared.map.forests.Node.{Node}
use Rattle.mem_base.proofs.ForestLaws.{id_of}
use Rattle.std.proofs.lemmas.List.{length-map}
use Rattle.region_slots.specs.declared.slots.Slot.{Slot}
use Rattle.region_slots.specs.Slots.{nodes_of}
use Rattle.region_extents.specs.Kept.{aliases_of}
use Rattle.region_tree.proofs.tree.aliases_at.Goals as goal
use Rattle.region_slots.proofs.SlotsLaws.{some_element}

pub returns : goal.returns
returns c =
    let slots = c.args.slots.now in
    let nodes = nodes_of slots in
    let at = c.in_ok-at.at in
    let d = some_element slots at c.in_ok-at.ensures.0 in
    let id : (get_or slots at d).node.id ≡ c.args.region = id_of nodes c.args.region (get_or slots at d).node (c.in_ok-at.ensures.1 d) in
    let within : at < length nodes = subst (λ k. at < k) (sym (length-map slots (λ (s : Slot). s.node))) c.in_ok-at.ensures.0 in
    let there = get_or-map (λ (s : Slot). s.node) slots at d d.node c.in_ok-at.ensures.0 in
    c.as_slice.ensures ∙ c.index-lists-at.is ∙ ap (λ lists. get_or lists at c.index-lists-at.result) c.requires.lists
    ∙ get_or-map (λ (n : Node). aliases_of nodes n.id) nodes at d.node c.index-lists-at.result within ∙ ap (λ (n : Node). aliases_of nodes n.id) there
    ∙ ap (aliases_of nodes) id
