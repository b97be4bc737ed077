use Rattle.std.proofs.Common.{◌∙◌, sym, ap, subst, List}
use Rattle.mem_base.specs.declared.map.ids.RegionId.{RegionId}
use Rattle.mem_base.specs.declared.map.ids.SpaceId.{SpaceId}
use Rattle.mem_base.specs.declared.map.forests.Node.{Node}
use Rattle.region_tree.specs.Tree.{forest_of, IsWhole}
use Rattle.region_extents.specs.Kept.{extents_in, aliases_in}
use Rattle.region_tree.proofs.tree.Tree.try_copy.Goals as goal

pub invariant_of-result : goal.invariant_of-result
invariant_of-result c =
    let f = forest_of c.self.inside in
    let a = c.in_ok-slots.ensures in
    let k = c.in_ok-kept.ensures in
    let d = c.in_ok-spaces.ensures in
    let whole = subst (λ (ps : List (SpaceId × RegionId)). IsWhole (record f { nodes = c.in_ok-slots.slots; spaces = ps })) (sym d)
    (subst (λ (ns : List Node). IsWhole (record f { nodes = ns })) (sym a) c.self.invariant.whole) in
    record {
      whole = whole;
      beside = record {
        extents = λ fresh. k.extents ∙ c.self.invariant.beside.extents (sym k.fresh ∙ fresh) ∙ ap extents_in (sym a);
        aliases = λ fresh. k.aliases ∙ c.self.invariant.beside.aliases (sym k.fresh ∙ fresh) ∙ ap aliases_in (sym a);
      };
    }
