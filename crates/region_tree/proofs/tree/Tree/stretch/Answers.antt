use Rattle.std.proofs.Common.{◌≡◌, ◌∙◌, sym, ap, subst, false, true, None, map, List}
use Rattle.std.specs.Prelude.{is_some}
use Rattle.mem_base.specs.declared.map.forests.Forest.{Forest}
use Rattle.mem_base.specs.declared.map.calls.Call.TheVariants.{Add}
use Rattle.mem_base.specs.map.Region.{node_of}
use Rattle.mem_base.specs.map.Changes.{changed}
use Rattle.mem_base.specs.map.Refusals.{alias_parent, has_container}
use Rattle.mem_base.specs.map.Steps.{reaches, greatest, greatest_depth, greatest_weight}
use Rattle.mem_base.proofs.JoinLaws.{weight_joined_bound}
use Rattle.region_extents.specs.declared.extents.Extent.{Extent}
use Rattle.region_tree.specs.Tree.{forest_of}
use Rattle.region_extents.proofs.StretchLaws.{stretched, slots_show_steps}
use Rattle.region_tree.proofs.tree.Tree.stretch.Goals as goal

pub lengthened-requires-clause-steps : goal.lengthened-requires-clause-steps
lengthened-requires-clause-steps c = slots_show_steps c.as_slice.result.now c.as_slice.ensures.kept.ascending c.as_slice.ensures.kept.children

pub lengthened-requires-clause-few : goal.lengthened-requires-clause-few
lengthened-requires-clause-few c =
    let apart = subst (λ (f : Forest). reaches f.nodes c.args.child c.args.parent ≡ false) (sym c.self.view_is) c.requires.no_loop in
    rw c.as_slice.ensures.nodes (weight_joined_bound (forest_of c.self.inside) c.self.invariant.whole.forest c.args.parent c.args.child apart)

pub returns-clause-depth : goal.returns-clause-depth
returns-clause-depth c offset priority =
    let f = forest_of c.self.inside in
    let parent = subst (λ (g : Forest). is_some (node_of g.nodes c.args.parent) ≡ true) (sym c.self.view_is) c.requires.parent in
    let child = subst (λ (g : Forest). is_some (node_of g.nodes c.args.child) ≡ true) (sym c.self.view_is) c.requires.child in
    let no_alias = subst (λ (g : Forest). alias_parent g c.args.parent ≡ None) (sym c.self.view_is) c.requires.no_alias in
    let free = subst (λ (g : Forest). has_container g c.args.child ≡ None) (sym c.self.view_is) c.requires.free in
    let all = stretched f c.self.invariant.whole.forest c.as_slice.result.now
    (sym c.as_slice.ensures.nodes) c.args.parent c.args.child parent child no_alias free c.in_ok-found.found.items c.in_ok-found.ensures offset priority
    in
    c.widest.ensures.depth ∙ ap (λ (es : List Extent). greatest (map (λ (e : Extent). e.depth) es)) c.as_slice-2.ensures.value ∙ all.0
    ∙ ap (λ (g : Forest). greatest_depth (changed g (Add c.args.parent offset c.args.child priority)).nodes) c.self.view_is

pub returns-clause-weight : goal.returns-clause-weight
returns-clause-weight c offset priority =
    let f = forest_of c.self.inside in
    let parent = subst (λ (g : Forest). is_some (node_of g.nodes c.args.parent) ≡ true) (sym c.self.view_is) c.requires.parent in
    let child = subst (λ (g : Forest). is_some (node_of g.nodes c.args.child) ≡ true) (sym c.self.view_is) c.requires.child in
    let no_alias = subst (λ (g : Forest). alias_parent g c.args.parent ≡ None) (sym c.self.view_is) c.requires.no_alias in
    let free = subst (λ (g : Forest). has_container g c.args.child ≡ None) (sym c.self.view_is) c.requires.free in
    let all = stretched f c.self.invariant.whole.forest c.as_slice.result.now
    (sym c.as_slice.ensures.nodes) c.args.parent c.args.child parent child no_alias free c.in_ok-found.found.items c.in_ok-found.ensures offset priority
    in
    c.widest.ensures.weight ∙ ap (λ (es : List Extent). greatest (map (λ (e : Extent). e.weight) es)) c.as_slice-2.ensures.value ∙ all.1
    ∙ ap (λ (g : Forest). greatest_weight (changed g (Add c.args.parent offset c.args.child priority)).nodes) c.self.view_is
