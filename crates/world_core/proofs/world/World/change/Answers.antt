use Rattle.std.proofs.Common.{◌≡◌, ◌≤◌, List, Ok, Err, sym, ap, subst, ◌∙◌, length}
use Rattle.std.specs.Prelude.{IfSome}
use Rattle.mem_base.specs.declared.map.ids.RegionId.{RegionId}
use Rattle.mem_base.specs.declared.map.refusals.Refusal.TheVariants.{Memory}
use Rattle.mem_base.specs.access.Places.{past}
use Rattle.mem_base.specs.machine.Publishing.{held_up}
use Rattle.kept_generations.specs.KeptState.{generations_of}
use Rattle.transact.specs.Backed.{BackedState}
use Rattle.writer_desk.specs.Writers.{WriterState, writer_state, dropped_with, made_place}
use Rattle.writer_run.proofs.TurnLaws.{held_tells}
use Rattle.world_core.specs.Worlds.{aside, cleared_at, state_with, world_of, IsWorld, Aside}
use Rattle.place_words.specs.Unfilled.{cells_at}
use Rattle.world_core.proofs.ChangeLaws.{ChangesWorld, accepted_so, made_there, refused_so}
use Rattle.world_core.proofs.RestLaws.{Rested, rested}
use Rattle.world_core.proofs.world.World.change.Goals.{After-configured, After-unsweep, After-unsweep-in_default}
use Rattle.world_core.proofs.world.World.change.Goals as goal
use Rattle.std.proofs.lemmas.Bool.{and_parts}

pub configured-requires-clause-rest : goal.configured-requires-clause-rest
configured-requires-clause-rest c = (rested c.self.inside c.args.self.now c.self.invariant c.self.view_is (and_parts _ _ c.requires.may).0).none_due

pub configured-requires-clause-held : goal.configured-requires-clause-held
configured-requires-clause-held c =
    let told : c.held_up-held.result ≡ held_up (generations_of c.self.inside.hand.kept) = c.held_up-held.ensures in
    λ e. held_tells c.self.inside.hand.kept.current 0 c.self.inside.hand.kept.tracks (sym told ∙ e)

start : (c : After-configured) → Rested c.self.inside c.args.self.now
start c = rested c.self.inside c.args.self.now c.self.invariant c.self.view_is (and_parts _ _ c.requires.may).0

abbrev after : After-configured → WriterState
after c = state_with c.configured.new.desk c.configured.new.due

pub clear_made-requires : goal.clear_made-requires
clear_made-requires c =
    let at = (goal.at.clear_made-requires c).After-configured in record {
      within = subst (λ (b : BackedState). IfSome (made_place b.backing.places c.in-Ok.applied) (λ p. past p ≤ length c.self.inside.hand.words))
          (sym c.backed.ensures)
          (made_there c.self.inside c.args.self.now (start at) c.args.config.now c.requires.may c.held_up-held.result c.held_up-held.ensures (after at)
          c.in-Ok.applied (c.in-Ok.ensures.configured (λ q. cc)) c.in-Ok.ensures.accepted);
    }

-- an accepted event
accepts : (c : After-unsweep) → ChangesWorld c.args.self.now c.args.config.now (Ok c.in-Ok.applied) (state_with c.configured.new.desk c.configured.new.due)
    c.unsweep.new.self c.clear_made.new.words (aside c.note_drop.new.dropped.items c.note_made.new.unfilled.cells)
accepts c =
    let s = c.self.inside in
    accepted_so s c.args.self.now (rested s c.args.self.now c.self.invariant c.self.view_is (and_parts _ _ c.requires.may).0) c.args.config.now c.requires.may
    c.held_up-held.result c.held_up-held.ensures (state_with c.configured.new.desk c.configured.new.due) c.in-Ok.applied
    (c.in-Ok.ensures.configured (λ q. cc)) c.in-Ok.ensures.accepted c.configured.ensures.ready c.clear_made.new.words
    (c.clear_made.ensures.words ∙ ap (λ (b : BackedState). cleared_at s.hand.words (made_place b.backing.places c.in-Ok.applied)) c.backed.ensures)
    c.clear_made.ensures.len c.unsweep.new.self c.unsweep.ensures c.note_drop.new.dropped.items
    (c.note_drop.ensures ∙ ap (λ (rs : List RegionId). dropped_with c.args.config.now rs) c.reserve.ensures.items) c.note_made.new.unfilled.cells
    (c.note_made.ensures ∙ ap (λ (b : BackedState). cells_at (made_place b.backing.places c.in-Ok.applied)) c.backed-in-Ok.ensures)

pub invariant_of-self-in-Ok : goal.invariant_of-self-in-Ok
invariant_of-self-in-Ok c = (accepts c).world

pub returns-in-Ok-clause-changed : goal.returns-in-Ok-clause-changed
returns-in-Ok-clause-changed c = λ other. (accepts c).changed

pub invariant_of-self-in-Memory : goal.invariant_of-self-in-Memory
invariant_of-self-in-Memory c =
    let u = c.in-Err.ensures.unchanged in
    subst (λ (z : WriterState × Aside). IsWorld z.0 c.self.inside.hand.kept c.self.inside.hand.words z.1)
    (λ i. (writer_state (sym u.0.0 i) (sym u.0.1 i) (sym u.1 i), aside (sym c.reserve.ensures.items i) (sym c.room_for_made.ensures.cells i)))
    (start (goal.at.invariant_of-self-in-Memory c).After-configured).world

pub returns-in-Memory-clause-unchanged : goal.returns-in-Memory-clause-unchanged
returns-in-Memory-clause-unchanged c =
    let u = c.in-Err.ensures.unchanged in
    λ memory. (λ i. world_of (writer_state (u.0.0 i) (u.0.1 i) (u.1 i)) c.self.inside.hand.kept c.self.inside.hand.words
    (aside (c.reserve.ensures.items i) (c.room_for_made.ensures.cells i))) ∙ (start (goal.at.returns-in-Memory-clause-unchanged c).After-configured).view

-- a refused event
refuses : (c : After-unsweep-in_default) → ChangesWorld c.args.self.now c.args.config.now (Err c.in-Err.why)
    (state_with c.configured.new.desk c.configured.new.due) c.unsweep-in_default.new.self c.self.inside.hand.words
    (aside c.reserve.new.self.items c.room_for_made.new.unfilled.cells)
refuses c =
    let s = c.self.inside in
    let u = c.in-Err.ensures.unchanged in
    refused_so s c.args.self.now (rested s c.args.self.now c.self.invariant c.self.view_is (and_parts _ _ c.requires.may).0) c.args.config.now c.requires.may
    c.held_up-held.result c.held_up-held.ensures (state_with c.configured.new.desk c.configured.new.due)
    (λ i. writer_state (u.0.0 i) (u.0.1 i) (u.1 i)) c.in-Err.why
    (c.in-Err.ensures.configured (λ q. let memory : c.in-Err.why ≡ Memory = cc in c.in_default.not-Memory memory))
    c.unsweep-in_default.new.self c.unsweep-in_default.ensures c.reserve.new.self.items c.reserve.ensures.items
    c.room_for_made.new.unfilled.cells c.room_for_made.ensures.cells

pub invariant_of-self-in_default : goal.invariant_of-self-in_default
invariant_of-self-in_default c = (refuses c).world

pub returns-in_default : goal.returns-in_default
returns-in_default c = record {
  changed = λ other. (refuses c).changed;
  unchanged = λ q. let memory : c.in-Err.why ≡ Memory = cc in absurd (c.in_default.not-Memory memory);
}
