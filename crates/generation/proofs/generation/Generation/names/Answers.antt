use Rattle.std.proofs.Common.{rules, ◌≡◌, ap, ◌∙◌}
use Rattle.std.specs.List.{list_any}
use Rattle.std.specs.Arc.{arc_value}
use Rattle.mem_base.specs.views.Naming.{has_leaf, names}
use Rattle.generation.proofs.ShownLaws.{leaf_is}
use Rattle.generation.proofs.generation.Generation.names.Goals as goal

pub returns : goal.returns
returns c =
    let same : c.self.inside.forest ≡ c.args.self.now.forest = search rules in
    c.is_leaf_among.ensures ∙ ap (λ atlases. list_any (λ p. has_leaf c.args.region (arc_value p.1)) atlases) c.as_slice.ensures.value
    ∙ leaf_is arc_value c.self.inside.forest c.args.region c.self.inside.atlases.items c.self.invariant.views
    ∙ ap (λ f. names f c.args.region) same
