use Rattle.std.proofs.Common.{append-nil, [], sym, ap, ◌∙◌}
use Rattle.mem_base.specs.machine.World.{World}
use Rattle.writer_desk.specs.Writers.{writer_state}
use Rattle.world_hand.specs.Taken.{with_calls}
use Rattle.world_core.specs.Worlds.{aside, state_of, state_with, world_of}
use Rattle.world_core.proofs.JournalLaws.{rest_is_world}
use Rattle.world_core.proofs.world.World.take_journal.Goals as goal

pub invariant_of-self : goal.invariant_of-self
invariant_of-self c =
    let s = c.self.inside in
    let e = c.take_journal.ensures in
    rest_is_world (state_of s.desk s.due) (state_with c.take_journal.new.self s.due) s.hand.kept s.hand.words (aside s.desk.dropped.items s.unfilled.cells)
    s.desk.listened.set.listening.journal [] c.self.invariant (sym (append-nil s.desk.listened.set.listening.journal))
    (λ i. writer_state (e.backed i) (e.left i) s.due)

pub returns-clause-world : goal.returns-clause-world
returns-clause-world c =
    let s = c.self.inside in
    let e = c.take_journal.ensures in
    (λ i. world_of (writer_state (e.backed i) (e.left i) s.due) s.hand.kept s.hand.words (aside s.desk.dropped.items s.unfilled.cells))
    ∙ ap (λ (w : World). with_calls [] w) c.self.view_is
