use Rattle.std.proofs.Common.{◌≡◌, ◌+◌, ℕ, List, None, sym, subst}
use Rattle.mem_base.specs.declared.map.forests.Node.{Node}
use Rattle.mem_base.specs.declared.map.forests.Forest.{Forest}
use Rattle.mem_base.specs.declared.map.calls.Call.TheVariants.{Move}
use Rattle.mem_base.specs.map.Region.{node_of}
use Rattle.mem_base.specs.map.Changes.{moves}
use Rattle.mem_base.specs.map.Calls.{refusal_of}
use Rattle.region_tree.specs.Tree.{forest_of, IsWhole}
use Rattle.region_tree.proofs.WholeLaws.{whole_accepted, moves_child}
use Rattle.region_extents.specs.Kept.{IsBeside}
use Rattle.region_extents.proofs.BesideLaws.{moved_beside}
use Rattle.region_tree.proofs.tree.Tree.shift.Goals as goal

pub shift-requires-clause-child : goal.shift-requires-clause-child
shift-requires-clause-child c =
    let f = forest_of c.self.inside in
    let none = subst (λ (g : Forest). refusal_of g (Move c.args.child c.args.offset) ≡ None) (sym c.self.view_is) c.requires in
    moves_child f c.args.child c.args.offset c.self.invariant.whole none

pub invariant_of-self-2 : goal.invariant_of-self-2
invariant_of-self-2 c =
    let f = forest_of c.self.inside in
    let none = subst (λ (g : Forest). refusal_of g (Move c.args.child c.args.offset) ≡ None) (sym c.self.view_is) c.requires in
    let nodes = c.in_ok-count.ensures.ok in
    let count = c.in_ok-count.ensures.placings in
    record {
      whole = subst (λ (k : ℕ). IsWhole (record f { nodes = c.shift.new.self; placings = f.placings + k; calls = f.calls + 1 })) (sym count)
          (subst (λ (ns : List Node). IsWhole (record f
          { nodes = ns; placings = f.placings + moves c.args.offset (node_of f.nodes c.args.child); calls = f.calls + 1 })) (sym nodes)
          (whole_accepted f (Move c.args.child c.args.offset) c.self.invariant.whole tt none));
      beside = subst (IsBeside c.self.inside.kept) (sym nodes)
          (moved_beside f.nodes c.self.inside.kept c.self.invariant.beside c.args.child c.args.offset f.placings);
    }
