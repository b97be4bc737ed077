use Rattle.std.proofs.Common.{◌≡◌, ◌∙◌, sym, ap, subst, true, None}
use Rattle.std.specs.Prelude.{is_some}
use Rattle.mem_base.specs.declared.map.forests.Forest.{Forest}
use Rattle.mem_base.specs.declared.map.calls.Call.TheVariants.{Add}
use Rattle.mem_base.specs.map.Region.{node_of}
use Rattle.mem_base.specs.map.Changes.{changed}
use Rattle.mem_base.specs.map.Refusals.{alias_parent, has_container}
use Rattle.mem_base.specs.map.Steps.{greatest_depth, greatest_weight}
use Rattle.region_extents.specs.Room.{is_within}
use Rattle.region_extents.proofs.StretchLaws.{within_joined}
use Rattle.region_tree.specs.Tree.{forest_of}
use Rattle.region_tree.proofs.tree.Tree.stays_within.Goals as goal

pub returns : goal.returns
returns c offset priority =
    let f = forest_of c.self.inside in
    let parent = subst (λ (g : Forest). is_some (node_of g.nodes c.args.parent) ≡ true) (sym c.self.view_is) c.requires.parent in
    let child = subst (λ (g : Forest). is_some (node_of g.nodes c.args.child) ≡ true) (sym c.self.view_is) c.requires.child in
    let no_alias = subst (λ (g : Forest). alias_parent g c.args.parent ≡ None) (sym c.self.view_is) c.requires.no_alias in
    let free = subst (λ (g : Forest). has_container g c.args.child ≡ None) (sym c.self.view_is) c.requires.free in
    c.stays_within.ensures
    ∙ within_joined f c.self.invariant.whole.forest c.args.parent c.args.child parent child no_alias free offset priority
    ∙ ap (λ (g : Forest). let nodes = (changed g (Add c.args.parent offset c.args.child priority)).nodes in
    is_within (greatest_depth nodes) (greatest_weight nodes)) c.self.view_is
