use Rattle.std.proofs.Common.{rules, ◌∙◌, ap, ◌==◌}
use Rattle.std.specs.Prelude.{not, filter}
use Rattle.std.proofs.lemmas.Fn.{filter_same}
use Rattle.mem_base.specs.declared.map.ids.RegionId.{RegionId}
use Rattle.region_extents.proofs.ids.Ids.remove.Goals as goal

pub returns : goal.returns
returns c = filter_same _ (λ (q : RegionId). not (q.0 == c.args.id.0)) _ (λ x b f k. search rules) _ _ c.retain.ensures.filtered
    ∙ ap (filter (λ (q : RegionId). not (q.0 == c.args.id.0))) c.self.view_is
