use Rattle.std.proofs.Common.{◌≡◌, ◌∙◌, sym, refl, arith, length}
use Rattle.region_slots.specs.Slots.{nodes_of}
use Rattle.region_extents.specs.Extents.{extents_by}
use Rattle.region_extents.proofs.ExtentsLaws.{extents_one, extents_settled, same_pointwise, extent_eq}
use Rattle.region_extents.proofs.rounds.lengthened.Goals as goal
use Rattle.mem_base.specs.map.Steps.{longest}

pub loop-round-init : goal.loop-round-init
loop-round-init c = c.in_ok-known.ensures.items_if_clones_equal (λ y e. e)
    ∙ extents_one (nodes_of c.args.slots.now) c.args.join c.args.slots.now (length c.args.slots.now) refl

pub returns-then-eq : goal.returns-then-eq
returns-then-eq c =
    let slots = c.args.slots.now in
    let round = c.loop-round.round in
    let same = same_pointwise _ (λ a b e. extent_eq a b e) c.in_ok-next.next.items c.loop-round.known.items (sym c.if-eq.ensures) in
    let grown : extents_by (nodes_of slots) c.args.join (c.loop-round.round) slots ≡ c.loop-round.known.items = sym c.loop-round.invariant in
    c.loop-round.invariant ∙ sym (extents_settled slots c.args.join round longest (omega arith) (omega arith) c.requires.parent
    (sym c.in_ok-next.ensures ∙ same ∙ c.loop-round.invariant))
