use Rattle.std.proofs.Common.{◌≡◌, ◌∙◌, ◌+◌, List, None, Some, sym, ap, subst}
use Rattle.mem_base.specs.declared.map.forests.Node.{Node}
use Rattle.mem_base.specs.declared.map.forests.Forest.{Forest}
use Rattle.mem_base.specs.map.Edits.{edits}
use Rattle.mem_base.specs.map.Calls.{refusal_of, counted}
use Rattle.mem_base.specs.map.Changes.{changed}
use Rattle.region_extents.specs.Kept.{IsBeside}
use Rattle.region_extents.proofs.BesideLaws.{edited_beside}
use Rattle.region_tree.specs.Tree.{forest_of, IsWhole}
use Rattle.region_tree.proofs.WholeLaws.{whole_accepted}
use Rattle.region_tree.proofs.EditLaws.{changed_edits, allowed_edit}
use Rattle.region_tree.proofs.tree.Tree.edit.Goals as goal

pub invariant_of-self-2 : goal.invariant_of-self-2
invariant_of-self-2 c =
    let f = forest_of c.self.inside in
    let call = c.args.call.now in
    let none = subst (λ (g : Forest). refusal_of g call ≡ None) (sym c.self.view_is) c.requires.free in
    let e : edits call ≡ Some c.in-Some.region = sym c.in-Some.ensures in
    let whole = whole_accepted f call c.self.invariant.whole c.knows_fits.ensures none in
    record {
      whole = subst (λ (ns : List Node). IsWhole (record f { nodes = ns; calls = f.calls + 1 })) (sym c.in_ok-edit.ensures.ok)
          (subst (λ (g : Forest). IsWhole (counted g)) (changed_edits f call c.in-Some.region e) whole);
      beside = subst (IsBeside c.self.inside.kept) (sym c.in_ok-edit.ensures.ok)
          (edited_beside f.nodes c.self.inside.kept c.self.invariant.beside call c.in-Some.region);
    }

pub edit-requires : goal.edit-requires
edit-requires c = λ n there.
    let f = forest_of c.self.inside in
    let call = c.args.call.now in
    let none = subst (λ (g : Forest). refusal_of g call ≡ None) (sym c.self.view_is) c.requires.free in
    allowed_edit f call c.in-Some.region (sym c.in-Some.ensures) none n there

pub returns-clause-ok : goal.returns-clause-ok
returns-clause-ok c =
    let f = forest_of c.self.inside in
    let call = c.args.call.now in
    ap (λ (ns : List Node). record f { nodes = ns; calls = f.calls + 1 }) c.in_ok-edit.ensures.ok
    ∙ ap counted (sym (changed_edits f call c.in-Some.region (sym c.in-Some.ensures)))
    ∙ ap (λ (g : Forest). counted (changed g call)) c.self.view_is
