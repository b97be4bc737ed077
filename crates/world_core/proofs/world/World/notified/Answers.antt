use Rattle.std.proofs.Common.{refl, subst}
use Rattle.mem_base.specs.machine.Answers.{notifier_answer}
use Rattle.mem_base.specs.machine.Orders.{notified}
use Rattle.kept_generations.specs.KeptState.{generations_of}
use Rattle.writer_run.specs.Parts.{part_of}
use Rattle.world_hand.specs.Reached.{IsReached}
use Rattle.world_hand.proofs.Completing.{is_legal}
use Rattle.world_hand.proofs.FlagLaws.{notified_sweeps_none}
use Rattle.world_core.proofs.RestLaws.{LeavesIn, leaves_all, parts_of, rested, steady_leaves}
use Rattle.world_core.proofs.world.World.notified.Goals.{After-notified}
use Rattle.world_core.proofs.world.World.notified.Goals as goal

pub notified-requires : goal.notified-requires
notified-requires c = record { parts = parts_of c.self.inside c.args.self.now c.self.invariant c.self.view_is c.requires.rest }

leaves : (c : After-notified) → LeavesIn c.args.self.now (notified c.args.number) (notifier_answer c.notified.result) c.self.inside c.self.inside.desk
    c.notified.new.hand.kept c.notified.new.hand.words
leaves c =
    let s = c.self.inside in
    let l = c.notified.new.hand in
    let f = rested s c.args.self.now c.self.invariant c.self.view_is c.requires.rest in
    leaves_all s c.args.self.now f (notified c.args.number) (notifier_answer c.notified.result) s.desk l.kept l.words
    (steady_leaves s.desk s.hand.kept s.hand.words f.world s.desk l.kept l.words (notified c.args.number) (notifier_answer c.notified.result)
    c.knows_bound.ensures c.notified.ensures.turn c.notified.ensures.parts refl (c.notified.ensures.turn.made.flags
    (notified_sweeps_none (part_of s.desk (generations_of s.hand.kept)) c.notified.ensures.turn.replies c.args.number)))

pub invariant_of-self : goal.invariant_of-self
invariant_of-self c = (leaves c).world

pub returns-clause-completed : goal.returns-clause-completed
returns-clause-completed c = (leaves c).is

pub returns-clause-legal : goal.returns-clause-legal
returns-clause-legal c =
    (is_legal c.args.self.now (notified c.args.number) (subst IsReached c.self.view_is c.self.invariant.reached) c.requires.rest c.knows_bound.ensures).legal
