use Rattle.std.proofs.Common.{rules, ◌≡◌, ◌≢◌, Ok, Some, refl, sym, subst, ◌∙◌, arith}
use Rattle.std.specs.Prelude.{IfErr}
use Rattle.mem_base.specs.declared.map.calls.Applied.TheVariants.{Made, Done}
use Rattle.mem_base.specs.declared.map.refusals.Refusal.TheVariants.{Memory}
use Rattle.mem_base.specs.map.Calls.{after, answer_of}
use Rattle.mem_base.specs.map.Forest.{IsMade}
use Rattle.transact.specs.Backed.{BackedState, backed_state, forest_at, refusal_at}
use Rattle.transact.proofs.BackedLaws.{refused_plain, few_after, plain_desk}
use Rattle.transact.proofs.backed.BackedDesk.plain_call.Goals as goal

pub returns-in_err-applied-clause-refused : goal.returns-in_err-applied-clause-refused
returns-in_err-applied-clause-refused c =
    let s = backed_state c.self.inside.desk c.self.inside.pool in
    let same : s ≡ c.args.self.now = c.self.view_is in
    let direct : IfErr c.call.result (λ why. why ≢ Memory → refusal_at c.args.self.now c.args.call.now ≡ Some why) =
    subst (λ (x : BackedState). IfErr c.call.result (λ why. why ≢ Memory → refusal_at x c.args.call.now ≡ Some why)) same
    (refused_plain s c.args.call.now c.call.result c.call.ensures.refused) in
    search rules

pub overflow_add-self : goal.overflow_add-self
overflow_add-self c =
    let f = c.self.inside.desk.state.forest in
    let g = c.call.new.self.state.forest in
    let whole : IsMade g = search rules in
    let done : after f c.args.call.now ≡ Ok g = search rules in
    let answered : Made c.in-Made.region ≡ answer_of f c.args.call.now = search rules in
    let few = few_after f g c.args.call.now c.in-Made.region whole done answered in
    omega (arith, few)

pub invariant_of-self-in-Made : goal.invariant_of-self-in-Made
invariant_of-self-in-Made c =
    let s = backed_state c.self.inside.desk c.self.inside.pool in
    let t = backed_state c.call.new.self c.self.inside.pool in
    let whole : IsMade (forest_at s) = search rules in
    let done : after (forest_at s) c.args.call.now ≡ Ok (forest_at t) = search rules in
    let answered : Made c.in-Made.region ≡ answer_of (forest_at s) c.args.call.now = search rules in
    plain_desk s t c.args.call.now (Made c.in-Made.region) c.self.inside.made c.self.inside.places.items c.self.invariant whole c.requires.wordless done
    answered refl

pub invariant_of-self-in_default : goal.invariant_of-self-in_default
invariant_of-self-in_default c =
    let s = backed_state c.self.inside.desk c.self.inside.pool in
    let t = backed_state c.call.new.self c.self.inside.pool in
    let whole : IsMade (forest_at s) = search rules in
    let done : after (forest_at s) c.args.call.now ≡ Ok (forest_at t) = search rules in
    let answered : Done ≡ answer_of (forest_at s) c.args.call.now = sym c.in_default.is ∙ c.in_ok-applied.ensures.applied.1 in
    plain_desk s t c.args.call.now Done c.self.inside.made c.self.inside.places.items c.self.invariant whole c.requires.wordless done
    answered refl
