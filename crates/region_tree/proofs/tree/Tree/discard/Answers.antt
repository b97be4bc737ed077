use Rattle.std.proofs.Common.{◌≡◌, ◌∙◌, ◌+◌, List, None, get_or, sym, ap, subst}
use Rattle.mem_base.specs.declared.map.forests.Node.{Node}
use Rattle.mem_base.specs.declared.map.forests.Forest.{Forest}
use Rattle.mem_base.specs.declared.map.calls.Call.TheVariants.{Drop}
use Rattle.mem_base.specs.map.Region.{node_of}
use Rattle.mem_base.specs.map.Kinds.{target_of}
use Rattle.mem_base.specs.map.Calls.{refusal_of}
use Rattle.mem_base.proofs.ForestLaws.{id_of}
use Rattle.region_slots.specs.declared.slots.Slot.{Slot}
use Rattle.region_extents.specs.Kept.{IsBeside}
use Rattle.region_extents.proofs.BesideLaws.{IsTargetPlace}
use Rattle.region_extents.proofs.DroppedLaws.{dropped_beside, found_node_at, has_itself}
use Rattle.region_tree.specs.Tree.{forest_of, IsWhole}
use Rattle.region_tree.proofs.WholeLaws.{whole_accepted, dropped_region, target_there}
use Rattle.region_tree.proofs.tree.Tree.discard.Goals as goal

pub invariant_of-self : goal.invariant_of-self
invariant_of-self c =
    let f = forest_of c.self.inside in
    let r = c.args.region in
    let none = subst (λ (g : Forest). refusal_of g (Drop r) ≡ None) (sym c.self.view_is) c.requires in
    let slots = c.as_slice-slots.result.now in
    let seen = sym c.as_slice-slots.ensures.nodes in
    let i = c.in-Some.at in
    let s : Slot = c.index-slots-at.result in
    let l = c.in-Some.ensures.0 in
    let drop = dropped_region f r none in
    let m = drop.node in
    let at = found_node_at f.nodes slots seen i s l in
    let found = ap (λ ns. node_of ns r) seen ∙ c.in-Some.ensures.1 s in
    let same : (get_or slots i s).node ≡ m = let t = sym found ∙ drop.there in cc in
    let has = has_itself r (get_or f.nodes i s.node) (ap (λ (n : Node). n.id) (at.1 ∙ same) ∙ id_of f.nodes r m drop.there) in
    let aim = ap (λ (n : Node). target_of n.kind) same in
    let p = c.place_of_target-target.ensures in
    let read = c.target.ensures ∙ aim in
    let place : IsTargetPlace slots (target_of m.kind) c.place_of_target-target.result = record {
      none = λ e. p.none (read ∙ e);
      some = λ t e k. p.some t (read ∙ e) k;
      within = p.within;
      there = λ t e. p.there t (read ∙ e);
    } in
    let k = c.forget.ensures in
    let beside = dropped_beside f slots seen c.self.invariant.whole.forest.ascending r m drop.there drop.free drop.unused i s.node at.0 has
    (target_there f r m c.self.invariant.whole drop.there) c.place_of_target-target.result place c.self.inside.kept c.forget.new.self
    c.self.invariant.beside k.fresh k.extents k.aliases in
    record {
      whole = subst (λ (ns : List Node). IsWhole (record f { nodes = ns; calls = f.calls + 1 })) (sym c.remove.ensures)
          (whole_accepted f (Drop r) c.self.invariant.whole tt none);
      beside = subst (IsBeside c.forget.new.self) (sym c.remove.ensures) beside;
    }
