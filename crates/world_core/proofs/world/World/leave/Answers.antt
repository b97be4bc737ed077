use Rattle.std.proofs.Common.{rules, ◌≡◌, true}
use Rattle.mem_base.specs.declared.machine.events.Event.TheVariants.{Leave}
use Rattle.mem_base.specs.machine.World.{possible, world_after, World}
use Rattle.writer_desk.specs.Writers.{WriterState}
use Rattle.world_core.specs.Worlds.{Aside, aside, world_of, after_events, state_of}
use Rattle.world_core.proofs.ReachedLaws.{passes_change}
use Rattle.mem_base.specs.machine.Composites.{leaves}
use Rattle.world_laws.proofs.PassKeeping.{leave_keeps}
use Rattle.world_core.proofs.world.World.leave.Goals as goal

pub invariant_of-self : goal.invariant_of-self
invariant_of-self c =
    let s = c.self.inside in
    let d : WriterState = state_of s.desk s.due in
    let x : Aside = aside s.desk.dropped.items s.unfilled.cells in
    let may : possible (world_of d s.hand.kept s.hand.words x) (Leave c.args.pass) ≡ true = search rules in
    let goes : world_of d c.leave.new.self s.hand.words x ≡ world_after (world_of d s.hand.kept s.hand.words x) (Leave c.args.pass) = search rules in
    passes_change d s.hand.kept c.leave.new.self s.hand.words x _ (Leave c.args.pass) c.self.invariant c.leave.ensures.state may goes

pub returns-clause-keeps : goal.returns-clause-keeps
returns-clause-keeps c =
    let s = c.self.inside in
    let d : WriterState = state_of s.desk s.due in
    let w : World = c.args.self.now in
    let v : World = world_of d c.leave.new.self s.hand.words (aside s.desk.dropped.items s.unfilled.cells) in
    let is : v ≡ after_events w (leaves c.args.pass) = search rules in
    leave_keeps w v c.args.pass c.requires is
