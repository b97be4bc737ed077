use Rattle.std.proofs.Common.{◌≡◌, refl, ◌∙◌, ◌+◌, ◌++◌, ◌∷◌, [], sym, ap, subst, None, List, arith}
use Rattle.mem_base.specs.declared.map.forests.Forest.{Forest}
use Rattle.mem_base.specs.declared.map.forests.Node.{Node}
use Rattle.mem_base.specs.declared.map.calls.Call.TheVariants.{Region}
use Rattle.mem_base.specs.map.Order.{children_of}
use Rattle.mem_base.specs.map.Kinds.{target_of}
use Rattle.mem_base.specs.map.Changes.{made_region}
use Rattle.mem_base.specs.map.Calls.{refusal_of}
use Rattle.mem_base.proofs.ForestLaws.{no_children}
use Rattle.region_tree.specs.Tree.{forest_of, IsWhole}
use Rattle.region_tree.proofs.WholeLaws.{whole_accepted}
use Rattle.region_tree.proofs.RegionLaws.{makeable_of, target_of_region}
use Rattle.region_extents.specs.Kept.{IsBeside}
use Rattle.region_extents.proofs.BesideLaws.{IsTargetPlace, made_beside}
use Rattle.region_tree.proofs.tree.Tree.make.Goals as goal

pub push-requires-clause-childless : goal.push-requires-clause-childless
push-requires-clause-childless c =
    let f = forest_of c.self.inside in
    subst (λ (n : Node). children_of f.nodes n.id ≡ []) (sym c.new_node.ensures)
    (no_children f (record { 0 = f.made }) c.self.invariant.whole.forest (omega arith))

pub overflow_add-self : goal.overflow_add-self
overflow_add-self c =
    let ok = makeable_of (forest_of c.self.inside) c.self.invariant.whole.forest c.args.kind c.args.size
    (subst (λ (g : Forest). refusal_of g (Region c.args.kind c.args.size) ≡ None) (sym c.self.view_is) c.requires) in
    let room = ok.room in
    omega arith

pub overflow_add-self-2 : goal.overflow_add-self-2
overflow_add-self-2 c =
    let ok = makeable_of (forest_of c.self.inside) c.self.invariant.whole.forest c.args.kind c.args.size
    (subst (λ (g : Forest). refusal_of g (Region c.args.kind c.args.size) ≡ None) (sym c.self.view_is) c.requires) in
    let few = ok.few in
    omega arith

pub invariant_of-self-2 : goal.invariant_of-self-2
invariant_of-self-2 c =
    let f = forest_of c.self.inside in
    let none = subst (λ (g : Forest). refusal_of g (Region c.args.kind c.args.size) ≡ None) (sym c.self.view_is) c.requires in
    let nodes = c.in_ok-push.ensures.ok ∙ ap (λ (n : Node). f.nodes ++ n ∷ []) c.new_node.ensures in
    let whole = whole_accepted f (Region c.args.kind c.args.size) c.self.invariant.whole c.knows_most.ensures none in
    let n = made_region (record { 0 = f.made }) c.args.kind c.args.size in
    let ok = makeable_of f c.self.invariant.whole.forest c.args.kind c.args.size none in
    let known_target = target_of_region f c.args.kind c.args.size none in
    let slots = c.as_slice.result.now in
    let aim = c.target.ensures in
    let place : IsTargetPlace slots (target_of c.args.kind) c.place_of_target-at.result = record {
      none = λ e. c.place_of_target-at.ensures.none (aim ∙ e);
      some = λ t e k. c.place_of_target-at.ensures.some t (aim ∙ e) k;
      within = c.place_of_target-at.ensures.within;
      there = λ t e. c.place_of_target-at.ensures.there t (aim ∙ e);
    } in
    let beside = made_beside f c.self.invariant.whole.forest n refl refl ok.target whole.forest.ascending known_target slots
    (sym c.as_slice.ensures.nodes) c.place_of_target-at.result place c.self.inside.kept c.enlist.new.self c.self.invariant.beside c.enlist.ensures.fresh
    (λ t. c.enlist.ensures.extents t ∙ ap (λ e. c.self.inside.kept.extents.items ++ e ∷ []) (c.extent_made-extent.ensures (c.enlist.ensures.fresh t)))
    c.enlist.ensures.aliases in
    record {
      whole = subst (λ (ns : List Node). IsWhole (record f { nodes = ns; made = f.made + 1; calls = f.calls + 1 })) (sym nodes) whole;
      beside = subst (IsBeside c.enlist.new.self) (sym nodes) beside;
    }
