use Rattle.std.proofs.Common.{rules, subst}
use Rattle.mem_base.specs.map.Forest.{IsMade}
use Rattle.transact.specs.Preparing.{AreDeskPlaces}
use Rattle.transact.specs.Backed.{BackedState, backed_state, forest_at, all_places}
use Rattle.transact.proofs.BackedLaws.{backs_of, desk_places}
use Rattle.transact.proofs.backed.BackedDesk.knows_places.Goals as goal

pub returns : goal.returns
returns c =
    let s = backed_state c.self.inside.desk c.self.inside.pool in
    let whole : IsMade (forest_at s) = search rules in
    subst (λ (x : BackedState). AreDeskPlaces (forest_at x) (all_places x.backing)) c.self.view_is
    (desk_places (forest_at s) s.backing whole (backs_of s _ _ c.self.invariant))
