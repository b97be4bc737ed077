use Rattle.std.proofs.Common.{rules, ◌≡◌, sym, subst, ◌∙◌}
use Rattle.mem_base.specs.map.Forest.{IsMade}
use Rattle.transact.specs.Preparing.{AreDeskPlaces}
use Rattle.transact.specs.Backed.{BackedState, backed_state, forest_at, all_places}
use Rattle.transact.proofs.BackedLaws.{backs_of, desk_places}
use Rattle.transact.proofs.backed.BackedDesk.places.Goals as goal

pub returns-clause-fit : goal.returns-clause-fit
returns-clause-fit c =
    let s = backed_state c.self.inside.desk c.self.inside.pool in
    let whole : IsMade (forest_at s) = search rules in
    let same : c.as_slice.result.now ≡ all_places s.backing = c.as_slice.ensures.value ∙ c.self.invariant.listed in
    subst (λ (x : BackedState). AreDeskPlaces (forest_at x) c.as_slice.result.now) c.self.view_is
    (subst (AreDeskPlaces (forest_at s)) (sym same) (desk_places (forest_at s) s.backing whole (backs_of s _ _ c.self.invariant)))
