use Rattle.std.proofs.Common.{◌≡◌, ap, subst, ◌∙◌}
use Rattle.std.specs.Prelude.{IfSome}
use Rattle.mem_base.specs.declared.map.forests.Forest.{Forest}
use Rattle.region_extents.specs.Kept.{aliases_of}
use Rattle.region_tree.proofs.tree.Tree.aliases.Goals as goal

pub returns : goal.returns
returns c =
    subst (λ nodes. IfSome c.aliases_at.result (λ ids. ids.now ≡ aliases_of nodes c.args.region))
    (c.as_slice.ensures.nodes ∙ ap (λ (f : Forest). f.nodes) c.self.view_is) c.aliases_at.ensures
