use Rattle.std.proofs.Common.{◌∙◌, ◌==◌, sym, ap, get_or, arith}
use Rattle.std.proofs.lemmas.List.{get_or-map}
use Rattle.mem_base.specs.declared.map.forests.Node.{Node}
use Rattle.mem_base.proofs.ForestLaws.{id_of}
use Rattle.region_slots.specs.declared.slots.Slot.{Slot}
use Rattle.region_slots.specs.Slots.{nodes_of}
use Rattle.region_slots.proofs.PlaceLaws.{length_nodes}
use Rattle.region_extents.proofs.ReachLaws.{marked_at, marked_none, missing_apart}
use Rattle.region_extents.proofs.paths.mark.Goals as goal
use Rattle.region_slots.proofs.SlotsLaws.{some_element}

pub returns-in-Some-clause-marked : goal.returns-in-Some-clause-marked
returns-in-Some-clause-marked c =
    let slots = c.args.slots.now in
    let i = c.in-Some.at in
    let l = c.in-Some.ensures.0 in
    let d : Slot = some_element slots i l in
    let at = get_or-map (λ (s : Slot). s.node) slots i d d.node l in
    let id = ap (λ (n : Node). n.id) at ∙ id_of (nodes_of slots) c.args.region (get_or slots i d).node (c.in-Some.ensures.1 d) in
    marked_at (nodes_of slots) i d.node c.args.region c.args.marks.now c.requires.ascending (omega (arith, length_nodes slots)) id

pub returns-in_default-clause-marked : goal.returns-in_default-clause-marked
returns-in_default-clause-marked c = sym
    (marked_none (nodes_of c.args.slots.now) (λ r. c.args.region.0 == r.0) c.args.marks.now
    (missing_apart (nodes_of c.args.slots.now) c.args.region c.in_default.ensures))
