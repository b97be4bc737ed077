use Rattle.std.proofs.Common.{refl, sym, subst}
use Rattle.mem_base.specs.machine.Answers.{answer_with, reap_answer}
use Rattle.mem_base.specs.machine.Orders.{reap}
use Rattle.world_hand.specs.Reached.{IsReached}
use Rattle.world_hand.proofs.Completing.{is_legal}
use Rattle.world_core.proofs.RestLaws.{Ends, parts_of, private_ends}
use Rattle.world_core.proofs.world.World.reap.Goals.{After-settled}
use Rattle.world_core.proofs.world.World.reap.Goals as goal

pub reap-answer-requires : goal.reap-answer-requires
reap-answer-requires c = record { parts = parts_of c.self.inside c.args.self.now c.self.invariant c.self.view_is c.requires.rest }

ends : (c : After-settled) → Ends c.args.self.now reap (λ q. reap_answer (answer_with (λ v. v.items) q)) c.settled.result c.reap-answer.new.desk
    c.self.inside.due c.settled.new.kept c.reap-answer.new.hand.words c.self.inside.unfilled.cells
ends c = let a = c.reap-answer in
    subst (λ q. Ends c.args.self.now reap (λ q. reap_answer (answer_with (λ v. v.items) q)) q a.new.desk
    c.self.inside.due c.settled.new.kept a.new.hand.words c.self.inside.unfilled.cells) (sym c.settled.ensures.same)
    (private_ends c.self.inside c.args.self.now c.self.invariant c.self.view_is c.requires.rest a.new.desk a.new.hand a.ensures.parts
    reap (λ q. reap_answer (answer_with (λ v. v.items) q)) a.result tt a.ensures.turn a.ensures.unchanged refl c.settled.ensures.kept.each_swept
    c.settled.new.kept c.settled.ensures.flags)

pub invariant_of-self : goal.invariant_of-self
invariant_of-self c = (ends c).world

pub returns-clause-completed : goal.returns-clause-completed
returns-clause-completed c = (ends c).completed

pub returns-clause-legal : goal.returns-clause-legal
returns-clause-legal c = (is_legal c.args.self.now reap (subst IsReached c.self.view_is c.self.invariant.reached) c.requires.rest tt).legal

pub returns-clause-unchanged : goal.returns-clause-unchanged
returns-clause-unchanged c = (ends c).unchanged

pub returns-clause-rests : goal.returns-clause-rests
returns-clause-rests c = (ends c).rests
