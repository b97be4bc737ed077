use Rattle.std.proofs.Common.{◌≡◌, ap, ◌∙◌, None}
use Rattle.mem_base.specs.script.Tasks.{Known, region_named, region_id}
use Rattle.script_names.specs.Tables.{number_of}
use Rattle.iommu_notify.specs.Watchers.{watchers_of}
use Rattle.race_lines.proofs.Keeping.{none_named, region_made}
use Rattle.race_lines.proofs.known.KnownNames.make_region.Goals as goal

pub invariant_of-self-2 : goal.invariant_of-self-2
invariant_of-self-2 c =
    let x = c.self.inside in
    let name = c.as_bytes.result.now in
    let free : number_of x.names.regions.bound name ≡ None = c.self.invariant.regions.finds name ∙ none_named region_id _
    (ap (λ (k : Known). region_named k name) c.self.view_is ∙ ap (region_named c.args.self.now) c.as_bytes.ensures ∙ c.requires) in
    let made = c.in_ok-add_region.ensures in
    region_made x.names c.add_region.new.self x.dropped.items x.gone.items (watchers_of x.notices) c.self.invariant name
    c.in_ok-add_region.field-0.0 free made.id made.regions made.others
