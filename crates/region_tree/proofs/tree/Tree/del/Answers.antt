use Rattle.std.proofs.Common.{◌≡◌, ◌∙◌, ◌+◌, List, None, refl, sym, ap, subst}
use Rattle.mem_base.specs.declared.map.forests.Node.{Node}
use Rattle.mem_base.specs.declared.map.forests.Forest.{Forest}
use Rattle.mem_base.specs.declared.map.calls.Call.TheVariants.{Del}
use Rattle.mem_base.specs.map.Calls.{refusal_of}
use Rattle.region_tree.specs.Tree.{forest_of, IsWhole}
use Rattle.region_extents.specs.Kept.{IsBeside, aliases_in}
use Rattle.region_tree.proofs.WholeLaws.{whole_accepted}
use Rattle.region_extents.proofs.StretchLaws.{slots_show_steps}
use Rattle.region_extents.proofs.BesideLaws.{aliases_changed, length_left}
use Rattle.region_extents.proofs.JoinedLaws.{kept_short}
use Rattle.region_extents.proofs.LeftLaws.{freed, child_of_del, settled_elsewhere, left_beside}
use Rattle.region_tree.proofs.tree.Tree.del.Goals as goal

pub resettle-requires-clause-steps : goal.resettle-requires-clause-steps
resettle-requires-clause-steps c = slots_show_steps c.as_slice.result.now c.as_slice.ensures.kept.ascending c.as_slice.ensures.kept.children

pub resettle-requires-clause-all : goal.resettle-requires-clause-all
resettle-requires-clause-all c fresh = length_left c.args.child freed (forest_of c.self.inside).nodes c.as_slice.result.now c.self.inside.kept.extents.items
    (c.as_slice.ensures.nodes ∙ c.take_out.ensures) (c.self.invariant.beside.extents fresh)

pub resettle-requires-clause-aliases : goal.resettle-requires-clause-aliases
resettle-requires-clause-aliases c fresh =
    c.self.invariant.beside.aliases fresh ∙ sym (aliases_changed c.args.child freed (λ n. refl) (λ n. refl) (forest_of c.self.inside).nodes)
    ∙ ap aliases_in (sym (c.as_slice.ensures.nodes ∙ c.take_out.ensures))

pub resettle-requires-clause-others : goal.resettle-requires-clause-others
resettle-requires-clause-others c fresh =
    let f = forest_of c.self.inside in
    let none = subst (λ (g : Forest). refusal_of g (Del c.args.parent c.args.child) ≡ None) (sym c.self.view_is) c.requires in
    let m = child_of_del f c.args.parent c.args.child none in
    settled_elsewhere f c.self.invariant.whole.forest c.args.parent c.args.child m.0 m.1 m.2 c.as_slice.result.now
    (c.as_slice.ensures.nodes ∙ c.take_out.ensures) c.self.inside.kept.extents.items (c.self.invariant.beside.extents fresh)

pub resettle-requires-clause-short : goal.resettle-requires-clause-short
resettle-requires-clause-short c fresh =
    let f = forest_of c.self.inside in
    kept_short f c.self.invariant.whole.forest f.nodes refl c.self.inside.kept.extents.items (c.self.invariant.beside.extents fresh)

pub invariant_of-self : goal.invariant_of-self
invariant_of-self c =
    let f = forest_of c.self.inside in
    let none = subst (λ (g : Forest). refusal_of g (Del c.args.parent c.args.child) ≡ None) (sym c.self.view_is) c.requires in
    let k = c.resettle.ensures in
    record {
      whole = subst (λ (ns : List Node). IsWhole (record f { nodes = ns; calls = f.calls + 1 })) (sym c.take_out.ensures)
          (whole_accepted f (Del c.args.parent c.args.child) c.self.invariant.whole tt none);
      beside = subst (IsBeside c.resettle.new.self) c.as_slice.ensures.nodes
          (left_beside c.as_slice.result.now c.resettle.new.self c.as_slice.ensures.kept.ascending k.aliases k.all k.settled k.short);
    }
