use Rattle.std.proofs.Common.{◌≡◌, ◌+◌, List, None, sym, subst}
use Rattle.mem_base.specs.declared.map.ids.SpaceId.{SpaceId}
use Rattle.mem_base.specs.declared.map.ids.RegionId.{RegionId}
use Rattle.mem_base.specs.declared.map.forests.Forest.{Forest}
use Rattle.mem_base.specs.declared.map.calls.Call.TheVariants.{Space}
use Rattle.mem_base.specs.map.Calls.{refusal_of}
use Rattle.region_tree.specs.Tree.{forest_of, IsWhole}
use Rattle.region_tree.proofs.WholeLaws.{whole_accepted}
use Rattle.region_tree.proofs.tree.Tree.open.Goals as goal

pub invariant_of-self-2 : goal.invariant_of-self-2
invariant_of-self-2 c =
    let f = forest_of c.self.inside in
    let none = subst (λ (g : Forest). refusal_of g (Space c.args.space c.args.root) ≡ None) (sym c.self.view_is) c.requires in
    record {
      whole = subst (λ (ps : List (SpaceId × RegionId)). IsWhole (record f { spaces = ps; calls = f.calls + 1 })) (sym c.in_ok-push.ensures.items)
          (whole_accepted f (Space c.args.space c.args.root) c.self.invariant.whole tt none);
      beside = c.self.invariant.beside;
    }
