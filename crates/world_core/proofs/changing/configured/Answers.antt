use Rattle.std.proofs.Common.{rules, ◌≡◌, ◌≢◌, Err, Some, None, Option, refl, sym, ap, subst, ◌∙◌}
use Rattle.std.specs.Prelude.{Result}
use Rattle.mem_base.specs.declared.map.calls.Applied.{Applied}
use Rattle.mem_base.specs.declared.map.refusals.Refusal.{Refusal}
use Rattle.mem_base.specs.declared.map.refusals.Refusal.TheVariants.{Memory}
use Rattle.mem_base.specs.views.Listening.{delivered}
use Rattle.transact.specs.Backed.{BackedState}
use Rattle.writer_desk.specs.Writers.{writer_state, IsConfigured, IsReady}
use Rattle.writer_desk.specs.Listened.{ListenedState, IsDone, IsReadied, IsRefused, IsUnmoved}
use Rattle.writer_desk.proofs.ListenedLaws.{refused_as, done_as, told_as}
use Rattle.world_core.specs.Worlds.{state_with}
use Rattle.world_core.proofs.changing.configured.Goals as goal

pub returns-in_err-applied-clause-configured : goal.returns-in_err-applied-clause-configured
returns-in_err-applied-clause-configured g c =
    let l : ListenedState = c.args.desk.now in
    let why : Refusal = c.in_err-applied.field-0.0 in
    let said : c.from_residual.result ≡ Err why = search rules in
    let is : why ≢ Memory → IsRefused l c.args.config.now why = c.in_err-applied.ensures.refused in
    let same : IsUnmoved l c.prepare.new.self = c.in_err-applied.ensures.unchanged in
    λ other. subst (λ (r : Result Applied Refusal). IsConfigured (state_with l c.args.due.now) c.args.config.now c.args.held
    (state_with c.prepare.new.self c.args.due.now) r) (sym said)
    (refused_as (state_with l c.args.due.now) l c.prepare.new.self c.args.due.now refl c.requires.rest same c.args.config.now c.args.held why
    ((is (λ e. other (said ∙ ap (λ (z : Refusal). Err z) e))).configured c.args.held))

pub returns-in-Some-clause-configured : goal.returns-in-Some-clause-configured
returns-in-Some-clause-configured g c =
    let l : ListenedState = c.args.desk.now in
    let z : IsReadied l c.args.config.now c.prepare.new.self c.in-Ready.ready = search rules in
    let held : c.args.held ≡ Some c.in-Some.why = search rules in
    λ other. subst (λ (o : Option Refusal). IsConfigured (state_with l c.args.due.now) c.args.config.now o
    (state_with c.prepare.new.self c.args.due.now) (Err c.in-Some.why)) (sym held)
    (refused_as (state_with l c.args.due.now) l c.prepare.new.self c.args.due.now refl c.requires.rest z.unmoved c.args.config.now (Some c.in-Some.why)
    c.in-Some.why (z.held c.in-Some.why))

pub returns-in-Done-clause-configured : goal.returns-in-Done-clause-configured
returns-in-Done-clause-configured g c =
    let l : ListenedState = c.args.desk.now in
    let d : IsDone l c.args.config.now c.prepare.new.self c.in-Done.applied = search rules in
    λ other. done_as (state_with l c.args.due.now) l c.prepare.new.self c.args.due.now refl c.requires.rest c.args.config.now c.args.held
    c.in-Done.applied (d.configured c.args.held)

pub returns-clause-configured : goal.returns-clause-configured
returns-clause-configured g c =
    let l : ListenedState = c.args.desk.now in
    let z : IsReadied l c.args.config.now c.prepare.new.self c.in-Ready.ready = search rules in
    let free : c.args.held ≡ None = search rules in
    let backed : c.tell.new.self.backed ≡ l.backed = c.tell.ensures.backed ∙ z.unmoved.0 in
    let heard : c.tell.new.self.set.listening ≡ delivered l.set.listening c.in-Ready.ready.changes =
    c.tell.ensures.told ∙ (λ i. delivered (z.unmoved.1 i) c.in-Ready.ready.changes) in
    λ other. told_as (state_with l c.args.due.now) l c.args.due.now refl c.requires.rest c.args.config.now c.in-Ready.ready z.free
    (state_with c.tell.new.self (Some c.in-Ready.ready)) (λ i. writer_state (backed i) (heard i) (Some c.in-Ready.ready))
    c.args.held free

pub returns-clause-accepted : goal.returns-clause-accepted
returns-clause-accepted g c =
    let l : ListenedState = c.args.desk.now in
    let z : IsReadied l c.args.config.now c.prepare.new.self c.in-Ready.ready = search rules in
    let backed : c.tell.new.self.backed ≡ l.backed = c.tell.ensures.backed ∙ z.unmoved.0 in record {
      current = ap (λ (b : BackedState). b.desk.current) backed ∙ z.accepted.current;
      backing = ap (λ (b : BackedState). b.backing) backed ∙ z.accepted.backing;
      answered = z.accepted.answered;
    }

pub returns-clause-ready : goal.returns-clause-ready
returns-clause-ready g c =
    let l : ListenedState = c.args.desk.now in
    let z : IsReadied l c.args.config.now c.prepare.new.self c.in-Ready.ready = search rules in
    subst (λ (b : BackedState). IsReady b c.in-Ready.ready) (sym c.tell.ensures.backed) z.ready
