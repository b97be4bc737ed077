use Rattle.std.proofs.Common.{refl, subst}
use Rattle.mem_base.specs.declared.map.calls.Config.TheVariants.{Begin}
use Rattle.mem_base.specs.machine.Answers.{plain_answer}
use Rattle.mem_base.specs.machine.Orders.{configure}
use Rattle.world_hand.specs.Reached.{IsReached}
use Rattle.world_hand.proofs.Completing.{is_legal}
use Rattle.world_core.proofs.RestLaws.{LeavesIn, leaves_all, parts_of, private_leaves, rested}
use Rattle.world_core.proofs.world.World.begin.Goals.{After-unsweep}
use Rattle.world_core.proofs.world.World.begin.Goals as goal

pub begin-begun-requires : goal.begin-begun-requires
begin-begun-requires c = record { parts = parts_of c.self.inside c.args.self.now c.self.invariant c.self.view_is c.requires.rest }

leaves : (c : After-unsweep) → LeavesIn c.args.self.now (configure Begin) (plain_answer c.begin-begun.result) c.self.inside c.begin-begun.new.desk
    c.unsweep.new.self c.self.inside.hand.words
leaves c =
    let s = c.self.inside in
    let f = rested s c.args.self.now c.self.invariant c.self.view_is c.requires.rest in
    leaves_all s c.args.self.now f (configure Begin) (plain_answer c.begin-begun.result) c.begin-begun.new.desk c.unsweep.new.self s.hand.words
    (private_leaves s.desk s.hand.kept s.hand.words f.world c.begin-begun.new.desk s.hand.kept s.hand.words (configure Begin)
    (plain_answer c.begin-begun.result) tt c.begin-begun.ensures.turn c.begin-begun.ensures.parts refl c.knows_passes.ensures.each_swept c.unsweep.new.self
    c.unsweep.ensures)

pub invariant_of-self : goal.invariant_of-self
invariant_of-self c = (leaves c).world

pub returns-clause-completed : goal.returns-clause-completed
returns-clause-completed c = (leaves c).is

pub returns-clause-legal : goal.returns-clause-legal
returns-clause-legal c = (is_legal c.args.self.now (configure Begin) (subst IsReached c.self.view_is c.self.invariant.reached) c.requires.rest tt).legal
