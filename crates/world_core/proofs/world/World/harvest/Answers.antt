use Rattle.std.proofs.Common.{refl, ap, subst}
use Rattle.mem_base.specs.machine.Answers.{answer_with, harvest_answer}
use Rattle.mem_base.specs.machine.Orders.{harvest}
use Rattle.kept_generations.specs.KeptState.{generations_of}
use Rattle.writer_run.specs.Parts.{part_of}
use Rattle.world_hand.specs.Reached.{IsReached}
use Rattle.world_hand.proofs.Completing.{is_legal}
use Rattle.world_hand.proofs.FlagLaws.{harvest_sweeps_none}
use Rattle.world_core.proofs.RestLaws.{Ends, parts_of, steady_ends}
use Rattle.world_core.proofs.world.World.harvest.Goals.{After-harvest}
use Rattle.world_core.proofs.world.World.harvest.Goals as goal

pub harvest-requires : goal.harvest-requires
harvest-requires c = record { parts = parts_of c.self.inside c.args.self.now c.self.invariant c.self.view_is c.requires.rest }

ends : (c : After-harvest) → Ends c.args.self.now (harvest c.args.region c.args.client) (λ q. harvest_answer (answer_with (λ v. v.items) q)) c.harvest.result
    c.self.inside.desk c.self.inside.due c.harvest.new.hand.kept c.harvest.new.hand.words c.self.inside.unfilled.cells
ends c = let s = c.self.inside in
    steady_ends s c.args.self.now c.self.invariant c.self.view_is c.requires.rest s.desk c.harvest.new.hand c.harvest.ensures.parts
    (harvest c.args.region c.args.client) (λ q. harvest_answer (answer_with (λ v. v.items) q)) c.harvest.result tt c.harvest.ensures.turn
    (λ memory. let u = c.harvest.ensures.unchanged memory in (ap (λ h. part_of s.desk (generations_of h.kept)) u, u)) refl
    (λ other. (c.harvest.ensures.turn other).made.flags
    (harvest_sweeps_none (part_of s.desk (generations_of s.hand.kept)) (c.harvest.ensures.turn other).replies c.args.region c.args.client))

pub invariant_of-self : goal.invariant_of-self
invariant_of-self c = (ends c).world

pub returns-clause-completed : goal.returns-clause-completed
returns-clause-completed c = (ends c).completed

pub returns-clause-legal : goal.returns-clause-legal
returns-clause-legal c =
    (is_legal c.args.self.now (harvest c.args.region c.args.client) (subst IsReached c.self.view_is c.self.invariant.reached) c.requires.rest tt).legal

pub returns-clause-unchanged : goal.returns-clause-unchanged
returns-clause-unchanged c = (ends c).unchanged

pub returns-clause-rests : goal.returns-clause-rests
returns-clause-rests c = (ends c).rests
