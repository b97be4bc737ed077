use Rattle.std.proofs.Common.{◌∙◌, ◌≤◌, ap, subst, arith, sym}
use Rattle.mem_base.specs.declared.map.forests.Forest.{Forest}
use Rattle.mem_base.specs.map.Steps.{weight_of}
use Rattle.mem_base.proofs.JoinLaws.{weight_at_most}
use Rattle.region_tree.specs.Tree.{forest_of}
use Rattle.region_slots.specs.Slots.{nodes_of}
use Rattle.region_extents.proofs.JoinedLaws.{weight_kept}
use Rattle.region_tree.proofs.tree.Tree.weight.Goals as goal
use Rattle.mem_base.specs.map.Limits.{most_weight}

pub weight_within-requires : goal.weight_within-requires
weight_within-requires c =
    let l = weight_at_most (forest_of c.self.inside) c.self.invariant.whole.forest c.args.region in omega arith

pub returns-in-Some-clause-value : goal.returns-in-Some-clause-value
returns-in-Some-clause-value c =
    weight_kept (nodes_of c.as_slice.result.now) c.args.region c.in-Some.extent c.in-Some.ensures
    ∙ ap (λ ns. weight_of ns c.args.region) c.as_slice.ensures.nodes ∙ ap (λ (f : Forest). weight_of f.nodes c.args.region) c.self.view_is

pub returns-in-Some-clause-within : goal.returns-in-Some-clause-within
returns-in-Some-clause-within c =
    let l = weight_at_most (forest_of c.self.inside) c.self.invariant.whole.forest c.args.region in
    let e = weight_kept (nodes_of c.as_slice.result.now) c.args.region c.in-Some.extent c.in-Some.ensures
    ∙ ap (λ ns. weight_of ns c.args.region) c.as_slice.ensures.nodes in
    subst (λ k. k ≤ most_weight) (sym e) l

pub returns-in-None-clause-within : goal.returns-in-None-clause-within
returns-in-None-clause-within c =
    let l = weight_at_most (forest_of c.self.inside) c.self.invariant.whole.forest c.args.region in
    subst (λ k. k ≤ most_weight) (sym c.weight_within.ensures) l
