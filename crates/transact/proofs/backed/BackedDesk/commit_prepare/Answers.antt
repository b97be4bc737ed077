use Rattle.std.proofs.Common.{rules, sym, ap, subst, ◌∙◌}
use Rattle.mem_base.specs.declared.map.forests.Forest.{Forest}
use Rattle.mem_base.specs.map.Forest.{IsMade}
use Rattle.transact.specs.Preparing.{AreDeskPlaces}
use Rattle.transact.specs.Backed.{backed_state, forest_at}
use Rattle.transact.proofs.BackedLaws.{Backs, backs_of, desk_of, desk_places, commit_forest}
use Rattle.transact.proofs.backed.BackedDesk.commit_prepare.Goals as goal

pub commit_prepare-requires : goal.commit_prepare-requires
commit_prepare-requires g c =
    let s = backed_state c.self.inside.desk c.self.inside.pool in
    let whole : IsMade (forest_at s) = search rules in
    subst (AreDeskPlaces (forest_at s)) (sym (c.as_slice.ensures.value ∙ c.self.invariant.listed))
    (desk_places (forest_at s) s.backing whole (backs_of s _ _ c.self.invariant))

pub invariant_of-self : goal.invariant_of-self
invariant_of-self g c =
    let s = backed_state c.self.inside.desk c.self.inside.pool in
    let same = commit_forest c.self.inside.desk c.commit_prepare.new.self c.as_slice.result.now c.args.listeners.now c.commit_prepare.result c.commit_prepare.ensures.step
    c.commit_prepare.ensures.unchanged in
    let k = backs_of s _ _ c.self.invariant in
    desk_of (backed_state c.commit_prepare.new.self c.self.inside.pool) c.self.inside.made c.self.inside.places.items
    (c.self.invariant.counted ∙ ap (λ (f : Forest). f.made) (sym same)) c.self.invariant.listed
    (subst (λ (f : Forest). Backs f c.self.inside.pool) (sym same) k)
