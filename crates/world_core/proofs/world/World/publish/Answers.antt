use Rattle.std.proofs.Common.{rules, ◌≡◌, ◌+◌, ◌<◌, true, Some, Option, sym, ap, subst, ◌∙◌}
use Rattle.std.specs.Prelude.{IfSome}
use Rattle.mem_base.specs.declared.map.forests.Forest.{Forest}
use Rattle.mem_base.specs.declared.machine.events.Event.TheVariants as events
use Rattle.mem_base.specs.map.Forest.{IsMade}
use Rattle.mem_base.specs.machine.World.{World, possible}
use Rattle.generation.specs.Published.{Published}
use Rattle.kept_generations.specs.KeptState.{after_publish}
use Rattle.transact.specs.Preparing.{Readied}
use Rattle.writer_desk.specs.Listened.{ListenedState}
use Rattle.writer_desk.specs.Writers.{IsReady}
use Rattle.world_core.specs.Worlds.{Aside, aside, state_of, state_with, world_of}
use Rattle.world_core.proofs.PublishEventLaws.{publishes, next_fits}
use Rattle.world_core.proofs.world.World.publish.Goals as goal

pub publish-requires-clause-fits : goal.publish-requires-clause-fits
publish-requires-clause-fits c =
    let s = c.self.inside in
    let x : Aside = aside s.desk.dropped.items s.unfilled.cells in
    let g : Readied = c.in-Some.due in
    let got : s.due ≡ Some g = search rules in
    let ready : IsReady s.desk.listened.backed g = subst (λ (o : Option Readied). IfSome o (IsReady s.desk.listened.backed)) got c.self.invariant.ready in
    let here : IsMade c.done-next.new.self.backed.desk.state.forest = search rules in
    let made : IsMade g.generation.forest =
    subst (λ (f : Forest). IsMade f) (ap (λ (m : ListenedState). m.backed.desk.state.forest) c.done-next.ensures.desk) here in
    subst (λ (p : Published). p.number + 1 < 18446744073709551616) (sym c.done-next.ensures.generation)
    (next_fits (state_of s.desk s.due) s.hand.kept s.hand.words x c.self.invariant g got ready made)

pub invariant_of-self : goal.invariant_of-self
invariant_of-self c =
    let s = c.self.inside in
    let x : Aside = aside s.desk.dropped.items s.unfilled.cells in
    let g : Readied = c.in-Some.due in
    let got : s.due ≡ Some g = search rules in
    let ready : IsReady s.desk.listened.backed g = subst (λ (o : Option Readied). IfSome o (IsReady s.desk.listened.backed)) got c.self.invariant.ready in
    let may : possible (world_of (state_of s.desk s.due) s.hand.kept s.hand.words x) events.Publish ≡ true =
    ap (λ (w : World). possible w events.Publish) c.self.view_is ∙ c.requires in
    (publishes (state_of s.desk s.due) s.hand.kept s.hand.words x c.self.invariant g got ready may (state_with c.done-next.new.self c.take.new.self)
    (λ i. state_with (c.done-next.ensures.desk i) (c.take.ensures.after i)) c.publish.new.self
    (c.publish.ensures.state ∙ ap (λ (p : Published). after_publish s.hand.kept p) c.done-next.ensures.generation)).world
