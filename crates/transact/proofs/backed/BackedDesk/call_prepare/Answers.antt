use Rattle.std.proofs.Common.{rules, ◌≡◌, Some, sym, ap, subst, ◌∙◌}
use Rattle.std.specs.Prelude.{IfOk}
use Rattle.mem_base.specs.map.Forest.{IsMade}
use Rattle.transact.specs.Desks.{DeskState}
use Rattle.transact.specs.Preparing.{AreDeskPlaces, readied}
use Rattle.transact.specs.Backed.{BackedState, backed_state, forest_at, all_places, IsBackedDesk, IsOfBackedDesk}
use Rattle.transact.proofs.BackedLaws.{backs_of, desk_places, ready_result}
use Rattle.transact.proofs.backed.BackedDesk.call_prepare.Goals as goal

pub call_prepare-requires-clause-places : goal.call_prepare-requires-clause-places
call_prepare-requires-clause-places g c =
    let s = backed_state c.self.inside.desk c.self.inside.pool in
    let whole : IsMade (forest_at s) = search rules in
    subst (AreDeskPlaces (forest_at s)) (sym (c.as_slice.ensures.value ∙ c.self.invariant.listed))
    (desk_places (forest_at s) s.backing whole (backs_of s _ _ c.self.invariant))

pub invariant_of-self : goal.invariant_of-self
invariant_of-self g c =
    let s = backed_state c.self.inside.desk c.self.inside.pool in
    subst (λ (d : DeskState). IsBackedDesk (backed_state d c.self.inside.pool) c.self.inside.made c.self.inside.places.items)
    (sym c.call_prepare.ensures.unchanged) c.self.invariant

pub returns-clause-ready : goal.returns-clause-ready
returns-clause-ready g c =
    let s = backed_state c.self.inside.desk c.self.inside.pool in
    let t = backed_state c.call_prepare.new.self c.self.inside.pool in
    let same : s ≡ t = ap (λ (d : DeskState). backed_state d c.self.inside.pool) (sym c.call_prepare.ensures.unchanged) in
    let listed = c.as_slice.ensures.value ∙ c.self.invariant.listed in
    let prepared : IfOk c.call_prepare.result (λ p. p ≡ readied s.desk.current p.generation.forest (all_places s.backing) c.args.listeners.now
    (Some c.args.call.now)) =
    subst (λ list. IfOk c.call_prepare.result (λ p. p ≡ readied s.desk.current p.generation.forest list c.args.listeners.now (Some c.args.call.now))) listed
    c.call_prepare.ensures.prepared in
    subst (λ (x : BackedState). IfOk c.call_prepare.result (IsOfBackedDesk x)) same
    (ready_result s c.args.call.now c.args.listeners.now c.call_prepare.result (search rules) c.requires.change c.call_prepare.ensures.applied prepared
    (backs_of s _ _ c.self.invariant))
