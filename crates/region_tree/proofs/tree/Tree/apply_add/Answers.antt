use Rattle.std.proofs.Common.{◌≡◌, ◌∙◌, ◌+◌, List, None, Ok, refl, sym, ap, subst, w32}
use Rattle.std.proofs.lemmas.Int.{to_z-of_z}
use Rattle.mem_base.specs.declared.map.forests.Forest.{Forest}
use Rattle.mem_base.specs.declared.map.forests.Node.{Node}
use Rattle.mem_base.specs.declared.map.calls.Call.TheVariants.{Add}
use Rattle.mem_base.specs.map.Changes.{changed, placed}
use Rattle.mem_base.specs.map.Calls.{after, counted}
use Rattle.mem_base.specs.map.TableRefusals.{no_more_calls}
use Rattle.region_extents.specs.Kept.{extents_in, aliases_in}
use Rattle.region_extents.proofs.StretchLaws.{slots_show_steps}
use Rattle.region_extents.proofs.BesideLaws.{aliases_changed}
use Rattle.region_tree.specs.Tree.{forest_of, IsWhole}
use Rattle.region_tree.proofs.AddLaws.{early, refused_early, joined_add, after_free}
use Rattle.region_tree.proofs.WholeLaws.{whole_accepted}
use Rattle.region_tree.proofs.tree.Tree.apply_add.Goals as goal
use Rattle.mem_base.proofs.OptionLaws.{none_of}

pub returns-in-Some-clause-refused : goal.returns-in-Some-clause-refused
returns-in-Some-clause-refused c _ = refused_early c.args.self.now c.args.parent c.args.offset c.args.child c.args.priority c.in-Some.why
    (sym c.no_place.ensures ∙ c.in-Some.is)

pub join-is_joined-requires-clause-steps : goal.join-is_joined-requires-clause-steps
join-is_joined-requires-clause-steps c = slots_show_steps c.as_slice.result.now c.as_slice.ensures.kept.ascending c.as_slice.ensures.kept.children

pub invariant_of-self-in-Ok : goal.invariant_of-self-in-Ok
invariant_of-self-in-Ok c =
    let f = forest_of c.self.inside in
    let same = to_z-of_z w32 c.args.priority c.ranges.priority in
    let nodes = (rw same at c.in-Ok.ensures.ok) in
    let slots = c.as_slice.result.now in
    let free = subst (λ (g : Forest). early g c.args.parent c.args.child ≡ None) (sym c.self.view_is) (sym c.no_place.ensures ∙ c.in_default.is) in
    let more = subst (λ (g : Forest). no_more_calls g ≡ None) (sym c.self.view_is)
    (sym c.no_more_calls.ensures ∙ none_of c.no_more_calls.result (sym c.is_some-is_spent.ensures ∙ c.if-is_spent.false)) in
    let k = c.join-is_joined.ensures in
    let done = c.if-not-is_joined.false in
    let joined = joined_add f c.self.invariant.whole.forest slots
    (sym c.as_slice.ensures.nodes) c.args.parent c.args.child free more c.join-is_joined.new.self.extents.items (k.settled done) (k.short done)
    (k.all done) c.args.offset c.args.priority in
    record {
      whole = subst (λ (ns : List Node). IsWhole (record f { nodes = ns; placings = f.placings + 1; calls = f.calls + 1 })) (sym nodes)
          (whole_accepted f (Add c.args.parent c.args.offset c.args.child c.args.priority) c.self.invariant.whole tt joined.accepted);
      beside = record {
        extents = λ t. joined.extents ∙ ap extents_in (sym nodes);
        aliases = λ t. k.aliases done ∙ ap aliases_in c.as_slice.ensures.nodes
            ∙ sym (aliases_changed c.args.child (placed c.args.parent c.args.offset c.args.priority f.placings) (λ n. refl) (λ n. refl) f.nodes)
            ∙ ap aliases_in (sym nodes);
      };
    }

pub returns-in-Ok-clause-applied : goal.returns-in-Ok-clause-applied
returns-in-Ok-clause-applied c =
    let f = forest_of c.self.inside in
    let same = to_z-of_z w32 c.args.priority c.ranges.priority in
    let nodes = (rw same at c.in-Ok.ensures.ok) in
    let slots = c.as_slice.result.now in
    let free = subst (λ (g : Forest). early g c.args.parent c.args.child ≡ None) (sym c.self.view_is) (sym c.no_place.ensures ∙ c.in_default.is) in
    let more = subst (λ (g : Forest). no_more_calls g ≡ None) (sym c.self.view_is)
    (sym c.no_more_calls.ensures ∙ none_of c.no_more_calls.result (sym c.is_some-is_spent.ensures ∙ c.if-is_spent.false)) in
    let k = c.join-is_joined.ensures in
    let done = c.if-not-is_joined.false in
    let joined = joined_add f c.self.invariant.whole.forest slots
    (sym c.as_slice.ensures.nodes) c.args.parent c.args.child free more c.join-is_joined.new.self.extents.items (k.settled done) (k.short done)
    (k.all done) c.args.offset c.args.priority in
    let call = Add c.args.parent c.args.offset c.args.child c.args.priority in
    let g : Forest = record f { nodes = c.place.new.self; placings = f.placings + 1; calls = f.calls + 1 } in
    let made : g ≡ counted (changed f call) =
    ap (λ (ns : List Node). let x : Forest = record f { nodes = ns; placings = f.placings + 1; calls = f.calls + 1 } in x) nodes in
    (subst (λ (x : Forest). after x call ≡ Ok g) c.self.view_is (after_free f g call joined.accepted made), refl)
