use Rattle.std.proofs.Common.{take, drop, take-append-drop, sym, ap, ◌∙◌}
use Rattle.mem_base.specs.machine.World.{World}
use Rattle.writer_desk.specs.Writers.{writer_state}
use Rattle.world_hand.specs.Taken.{with_calls}
use Rattle.world_core.specs.Worlds.{aside, state_of, state_with, world_of}
use Rattle.world_core.proofs.JournalLaws.{rest_is_world}
use Rattle.world_core.proofs.world.World.forget.Goals as goal

pub invariant_of-self : goal.invariant_of-self
invariant_of-self c =
    let s = c.self.inside in
    let e = c.forget.ensures in
    let calls = s.desk.listened.set.listening.journal in
    rest_is_world (state_of s.desk s.due) (state_with c.forget.new.self s.due) s.hand.kept s.hand.words (aside s.desk.dropped.items s.unfilled.cells)
    (take c.args.count calls) (drop c.args.count calls) c.self.invariant (sym (take-append-drop c.args.count calls))
    (λ i. writer_state (e.backed i) (e.left i) s.due)

pub returns : goal.returns
returns c =
    let s = c.self.inside in
    let e = c.forget.ensures in
    (λ i. world_of (writer_state (e.backed i) (e.left i) s.due) s.hand.kept s.hand.words (aside s.desk.dropped.items s.unfilled.cells))
    ∙ ap (λ (w : World). with_calls (drop c.args.count w.writer.desk.listening.journal) w) c.self.view_is
