use Rattle.std.proofs.Common.{◌≡◌, None, sym, subst}
use Rattle.mem_base.specs.declared.map.forests.Forest.{Forest}
use Rattle.mem_base.specs.declared.map.calls.Call.TheVariants.{Global}
use Rattle.mem_base.specs.map.Calls.{refusal_of}
use Rattle.region_tree.specs.Tree.{forest_of}
use Rattle.region_tree.proofs.WholeLaws.{whole_accepted}
use Rattle.region_tree.proofs.tree.Tree.set_global.Goals as goal

pub invariant_of-self : goal.invariant_of-self
invariant_of-self c =
    let f = forest_of c.self.inside in
    let none = subst (λ (g : Forest). refusal_of g (Global c.args.on) ≡ None) (sym c.self.view_is) c.requires in
    record {
      whole = whole_accepted f (Global c.args.on) c.self.invariant.whole tt none;
      beside = c.self.invariant.beside;
    }
