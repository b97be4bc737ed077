use Rattle.std.proofs.Common.{◌≡◌, ◌∙◌, ◌+◌, sym, ap, subst, None, List, w32}
use Rattle.std.proofs.lemmas.Int.{to_z-of_z}
use Rattle.mem_base.specs.declared.map.forests.Forest.{Forest}
use Rattle.mem_base.specs.declared.map.forests.Node.{Node}
use Rattle.mem_base.specs.declared.map.calls.Call.TheVariants.{Add}
use Rattle.mem_base.specs.map.Changes.{changed}
use Rattle.mem_base.specs.map.Calls.{counted, refusal_of}
use Rattle.region_tree.specs.Tree.{forest_of, IsWhole}
use Rattle.region_tree.proofs.AddLaws.{allowed_of, apart_of}
use Rattle.region_tree.proofs.WholeLaws.{whole_accepted}
use Rattle.region_extents.specs.Kept.{IsBeside}
use Rattle.region_extents.proofs.StretchLaws.{slots_show_steps}
use Rattle.region_tree.proofs.tree.Tree.add.Goals as goal

pub place-requires-clause-apart : goal.place-requires-clause-apart
place-requires-clause-apart c =
    let f = forest_of c.self.inside in
    let none = subst (λ (g : Forest). refusal_of g (Add c.args.parent c.args.offset c.args.child c.args.priority) ≡ None) (sym c.self.view_is) c.requires in
    let allowed = allowed_of f c.args.parent c.args.offset c.args.child c.args.priority none in
    apart_of f c.args.parent c.args.child allowed.free

pub renew-requires-clause-steps : goal.renew-requires-clause-steps
renew-requires-clause-steps c = slots_show_steps c.as_slice.result.now c.as_slice.ensures.kept.ascending c.as_slice.ensures.kept.children

pub invariant_of-self-2 : goal.invariant_of-self-2
invariant_of-self-2 c =
    let f = forest_of c.self.inside in
    let none = subst (λ (g : Forest). refusal_of g (Add c.args.parent c.args.offset c.args.child c.args.priority) ≡ None) (sym c.self.view_is) c.requires in
    let same = to_z-of_z w32 c.args.priority c.ranges.priority in
    let nodes = (rw same at c.in_ok-place.ensures.ok) in
    record {
      whole = subst (λ (ns : List Node). IsWhole (record f { nodes = ns; placings = f.placings + 1; calls = f.calls + 1 })) (sym nodes)
          (whole_accepted f (Add c.args.parent c.args.offset c.args.child c.args.priority) c.self.invariant.whole tt none);
      beside = subst (IsBeside c.renew.new.self) c.as_slice.ensures.nodes c.renew.ensures;
    }

pub returns-clause-ok : goal.returns-clause-ok
returns-clause-ok c =
    let f = forest_of c.self.inside in
    let same = to_z-of_z w32 c.args.priority c.ranges.priority in
    let nodes = (rw same at c.in_ok-place.ensures.ok) in
    ap (λ (ns : List Node). let g : Forest = record f { nodes = ns; placings = f.placings + 1; calls = f.calls + 1 } in g) nodes
    ∙ ap (λ (g : Forest). counted (changed g (Add c.args.parent c.args.offset c.args.child c.args.priority))) c.self.view_is
