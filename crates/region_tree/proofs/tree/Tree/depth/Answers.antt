use Rattle.std.proofs.Common.{◌∙◌, ◌≤◌, ap, sym, subst}
use Rattle.mem_base.specs.declared.map.forests.Forest.{Forest}
use Rattle.mem_base.specs.map.Steps.{depth_of}
use Rattle.mem_base.proofs.JoinLaws.{depth_at_most}
use Rattle.region_tree.specs.Tree.{forest_of}
use Rattle.region_slots.specs.Slots.{nodes_of}
use Rattle.region_extents.proofs.JoinedLaws.{depth_kept}
use Rattle.region_tree.proofs.tree.Tree.depth.Goals as goal
use Rattle.mem_base.specs.map.Limits.{most_depth}

pub returns-in-Some-clause-value : goal.returns-in-Some-clause-value
returns-in-Some-clause-value c =
    depth_kept (nodes_of c.as_slice.result.now) c.args.region c.in-Some.extent c.in-Some.ensures
    ∙ ap (λ ns. depth_of ns c.args.region) c.as_slice.ensures.nodes ∙ ap (λ (f : Forest). depth_of f.nodes c.args.region) c.self.view_is

pub returns-in-Some-clause-within : goal.returns-in-Some-clause-within
returns-in-Some-clause-within c =
    let l = depth_at_most (forest_of c.self.inside) c.self.invariant.whole.forest c.args.region in
    let e = depth_kept (nodes_of c.as_slice.result.now) c.args.region c.in-Some.extent c.in-Some.ensures
    ∙ ap (λ ns. depth_of ns c.args.region) c.as_slice.ensures.nodes in
    subst (λ k. k ≤ most_depth) (sym e) l

pub returns-in-None-clause-within : goal.returns-in-None-clause-within
returns-in-None-clause-within c =
    let l = depth_at_most (forest_of c.self.inside) c.self.invariant.whole.forest c.args.region in
    subst (λ k. k ≤ most_depth) (sym c.depth_within.ensures.value) l
