use Rattle.std.proofs.Common.{ℕ, Option, refl, sym, subst}
use Rattle.std.specs.Prelude.{Result}
use Rattle.mem_base.specs.declared.map.calls.Applied.{Applied}
use Rattle.mem_base.specs.declared.map.refusals.Refusal.{Refusal}
use Rattle.mem_base.specs.machine.Orders.{configure}
use Rattle.writer_run.specs.Turns.{answer_by}
use Rattle.world_hand.specs.Reached.{IsReached}
use Rattle.world_hand.proofs.Completing.{is_legal}
use Rattle.world_core.proofs.ConfigLaws.{cause_is, held_is, left_is, number_is}
use Rattle.world_core.proofs.RestLaws.{Ends, Rested, parts_of, private_ends, rested}
use Rattle.world_core.proofs.world.World.configure.Goals.{After-settled}
use Rattle.world_core.proofs.world.World.configure.Goals as goal

pub configure-answer-requires : goal.configure-answer-requires
configure-answer-requires c = record { parts = parts_of c.self.inside c.args.self.now c.self.invariant c.self.view_is c.requires.rest }

start : (c : After-settled) → Rested c.self.inside c.args.self.now
start c = rested c.self.inside c.args.self.now c.self.invariant c.self.view_is c.requires.rest

ends : (c : After-settled) → Ends c.args.self.now (configure c.args.config.now) (answer_by c.args.config.now) c.settled.result c.configure-answer.new.desk
    c.self.inside.due c.settled.new.kept c.configure-answer.new.hand.words c.self.inside.unfilled.cells
ends c = let a = c.configure-answer in
    subst (λ (q : Result (Applied × Option ℕ) Refusal). Ends c.args.self.now (configure c.args.config.now) (answer_by c.args.config.now) q a.new.desk
    c.self.inside.due c.settled.new.kept a.new.hand.words c.self.inside.unfilled.cells) (sym c.settled.ensures.same)
    (private_ends c.self.inside c.args.self.now c.self.invariant c.self.view_is c.requires.rest a.new.desk a.new.hand a.ensures.parts
    (configure c.args.config.now) (answer_by c.args.config.now) a.result tt a.ensures.turn a.ensures.unchanged refl c.settled.ensures.kept.each_swept
    c.settled.new.kept c.settled.ensures.flags)

pub invariant_of-self : goal.invariant_of-self
invariant_of-self c = (ends c).world

pub returns-clause-completed : goal.returns-clause-completed
returns-clause-completed c = (ends c).completed

pub returns-clause-legal : goal.returns-clause-legal
returns-clause-legal c =
    (is_legal c.args.self.now (configure c.args.config.now) (subst IsReached c.self.view_is c.self.invariant.reached) c.requires.rest tt).legal

pub returns-clause-number : goal.returns-clause-number
returns-clause-number c = let a = c.configure-answer in
    number_is c.self.inside c.args.self.now (start c) c.args.config.now a.result c.settled.result c.settled.ensures.same a.new.desk a.new.hand.kept
    a.new.hand.words c.settled.new.kept c.settled.ensures.flags a.ensures.number

pub returns-clause-cause : goal.returns-clause-cause
returns-clause-cause c = let a = c.configure-answer in
    cause_is c.self.inside c.args.self.now (start c) c.args.config.now a.result c.settled.result c.settled.ensures.same a.new.desk a.new.hand.kept
    a.new.hand.words c.settled.new.kept c.settled.ensures.flags a.ensures.cause

pub returns-clause-held : goal.returns-clause-held
returns-clause-held c = let a = c.configure-answer in
    held_is c.self.inside c.args.self.now (start c) c.args.config.now a.result c.settled.result c.settled.ensures.same a.new.desk a.new.hand.kept
    a.new.hand.words c.settled.new.kept c.settled.ensures.flags a.ensures.held

pub returns-clause-left : goal.returns-clause-left
returns-clause-left c = let a = c.configure-answer in
    left_is c.self.inside c.args.self.now (start c) c.args.config.now a.result c.settled.result c.settled.ensures.same a.new.desk a.new.hand.kept
    a.new.hand.words c.settled.new.kept c.settled.ensures.flags c.settled.ensures.kept.each_swept a.ensures.left

pub returns-clause-unchanged : goal.returns-clause-unchanged
returns-clause-unchanged c = (ends c).unchanged

pub returns-clause-rests : goal.returns-clause-rests
returns-clause-rests c = (ends c).rests
