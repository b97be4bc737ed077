use Rattle.std.proofs.Common.{◌≡◌, ◌∙◌, w32, rules, sym, ap, subst, None, ℤ}
use mir.Val.{SFits}
use Rattle.std.proofs.lemmas.Int.{to_z-of_z}
use Rattle.mem_base.specs.declared.map.calls.Call.{Call}
use Rattle.mem_base.specs.declared.map.calls.Call.TheVariants.{Add}
use Rattle.mem_base.specs.map.Changes.{changed}
use Rattle.mem_base.specs.map.Calls.{counted, refusal_of, answer_of}
use Rattle.region_tree.proofs.tree.Tree.accept.Goals as goal

pub add-requires : goal.add-requires
add-requires c =
    let fits : SFits w32 c.in-Add.priority = search rules in
    let same = to_z-of_z w32 c.in-Add.priority fits in
    let none = subst (λ (k : Call). refusal_of c.args.self.now k ≡ None) c.in-Add.is c.requires in
    subst (λ (p : ℤ). refusal_of c.args.self.now (Add c.in-Add.parent c.in-Add.offset c.in-Add.child p) ≡ None) (sym same) none

pub returns-in_ok-add-in-Add-clause-ok : goal.returns-in_ok-add-in-Add-clause-ok
returns-in_ok-add-in-Add-clause-ok c =
    let fits : SFits w32 c.in-Add.priority = search rules in
    let same = to_z-of_z w32 c.in-Add.priority fits in
    let done = c.in_ok-add-in-Add.ensures.ok ∙ ap (λ (p : ℤ). counted (changed c.args.self.now (Add c.in-Add.parent c.in-Add.offset c.in-Add.child p))) same in
    (done ∙ ap (λ (k : Call). counted (changed c.args.self.now k)) (sym c.in-Add.is), ap (answer_of c.args.self.now) (sym c.in-Add.is))
