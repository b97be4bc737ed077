use Rattle.std.proofs.Common.{rules, ◌≡◌, true, ap}
use Rattle.mem_base.specs.declared.machine.events.Event.TheVariants.{Sweep}
use Rattle.mem_base.specs.machine.World.{possible, world_after}
use Rattle.kept_generations.specs.KeptState.{KeptState}
use Rattle.writer_desk.specs.Writers.{WriterState}
use Rattle.world_core.specs.Worlds.{Aside, aside, world_of, state_of}
use Rattle.world_core.proofs.PublishEventLaws.{tracks_change}
use Rattle.world_core.proofs.world.World.sweep.Goals as goal

pub invariant_of-self : goal.invariant_of-self
invariant_of-self c =
    let s = c.self.inside in
    let d : WriterState = state_of s.desk s.due in
    let x : Aside = aside s.desk.dropped.items s.unfilled.cells in
    let may : possible (world_of d s.hand.kept s.hand.words x) (Sweep c.args.pass) ≡ true = search rules in
    let goes : world_of d c.sweep.new.self s.hand.words x ≡ world_after (world_of d s.hand.kept s.hand.words x) (Sweep c.args.pass) = search rules in
    tracks_change d s.hand.kept s.hand.words x c.self.invariant c.sweep.new.self (Sweep c.args.pass)
    (ap (λ (m : KeptState). m.kept) c.sweep.ensures.state) (ap (λ (m : KeptState). m.current) c.sweep.ensures.state) may goes
