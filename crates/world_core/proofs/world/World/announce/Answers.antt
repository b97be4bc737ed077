use Rattle.std.proofs.Common.{rules, ◌≡◌, true}
use Rattle.mem_base.specs.declared.machine.events.Event.TheVariants.{Announce}
use Rattle.mem_base.specs.machine.World.{possible, world_after}
use Rattle.writer_desk.specs.Writers.{WriterState}
use Rattle.world_core.specs.Worlds.{Aside, aside, world_of, state_of}
use Rattle.world_core.proofs.ReachedLaws.{passes_change}
use Rattle.world_core.proofs.world.World.announce.Goals as goal

pub invariant_of-self : goal.invariant_of-self
invariant_of-self c =
    let s = c.self.inside in
    let d : WriterState = state_of s.desk s.due in
    let x : Aside = aside s.desk.dropped.items s.unfilled.cells in
    let may : possible (world_of d s.hand.kept s.hand.words x) (Announce c.args.pass) ≡ true = search rules in
    let goes : world_of d c.announce.new.self s.hand.words x ≡ world_after (world_of d s.hand.kept s.hand.words x) (Announce c.args.pass) = search rules in
    passes_change d s.hand.kept c.announce.new.self s.hand.words x _ (Announce c.args.pass) c.self.invariant c.announce.ensures.state may goes
