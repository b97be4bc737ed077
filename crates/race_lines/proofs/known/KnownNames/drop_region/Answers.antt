use Rattle.std.proofs.Common.{◌≡◌, ap, subst, sym, refl, ◌∙◌, Some, List, ℕ}
use Rattle.mem_base.specs.declared.map.ids.RegionId.{RegionId}
use Rattle.mem_base.specs.script.Tasks.{Known, region_named}
use Rattle.script_names.specs.Tables.{number_of}
use Rattle.iommu_notify.specs.Watchers.{watchers_of}
use Rattle.race_lines.specs.KnownNames.{HoldsNames}
use Rattle.race_lines.proofs.Keeping.{region_dropped, some_named}
use Rattle.race_lines.proofs.known.KnownNames.drop_region.Goals as goal

abbrev id : ℕ → RegionId
id n = record { 0 = n }

pub invariant_of-self-2 : goal.invariant_of-self-2
invariant_of-self-2 c =
    let x = c.self.inside in
    let name = c.as_bytes.result.now in
    let named : number_of x.names.regions.bound name ≡ Some c.args.region.0 = c.self.invariant.regions.finds name
    ∙ some_named id (λ (y : RegionId). y.0) (λ n. refl) _ c.args.region
    (ap (λ (k : Known). region_named k name) c.self.view_is ∙ ap (region_named c.args.self.now) c.as_bytes.ensures ∙ c.requires) in
    let left = c.drop_region.ensures in
    subst (λ (ys : List RegionId). HoldsNames c.drop_region.new.self ys x.gone.items (watchers_of x.notices)) (sym c.in_ok-push.ensures.items)
    (region_dropped x.names c.drop_region.new.self x.dropped.items x.gone.items (watchers_of x.notices) c.self.invariant name c.args.region named left.bound left.same
    left.others)
