use Rattle.std.proofs.Common.{rules, ◌≡◌, true, ap, ◌∙◌}
use Rattle.mem_base.specs.declared.machine.events.Event.TheVariants.{Place}
use Rattle.mem_base.specs.machine.World.{World, possible, world_after}
use Rattle.writer_desk.specs.Writers.{WriterState}
use Rattle.world_core.specs.Worlds.{Aside, aside, world_of, state_of}
use Rattle.kept_generations.specs.KeptState.{KeptState}
use Rattle.world_core.proofs.PublishEventLaws.{place_is, tracks_change}
use Rattle.world_core.proofs.world.World.place.Goals as goal

pub invariant_of-self : goal.invariant_of-self
invariant_of-self c =
    let s = c.self.inside in
    let d : WriterState = state_of s.desk s.due in
    let x : Aside = aside s.desk.dropped.items s.unfilled.cells in
    let may : possible (world_of d s.hand.kept s.hand.words x) (Place c.args.pass) ≡ true = search rules in
    tracks_change d s.hand.kept s.hand.words x c.self.invariant c.place.new.self (Place c.args.pass)
    (ap (λ (m : KeptState). m.kept) c.place.ensures.state) (ap (λ (m : KeptState). m.current) c.place.ensures.state) may
    (place_is d s.hand.kept s.hand.words x c.self.invariant c.place.new.self c.args.pass c.place.ensures.generations c.place.ensures.state)

pub returns : goal.returns
returns c =
    let s = c.self.inside in
    let d : WriterState = state_of s.desk s.due in
    let x : Aside = aside s.desk.dropped.items s.unfilled.cells in
    place_is d s.hand.kept s.hand.words x c.self.invariant c.place.new.self c.args.pass c.place.ensures.generations c.place.ensures.state
    ∙ ap (λ (w : World). world_after w (Place c.args.pass)) c.self.view_is
