use Rattle.std.proofs.Common.{rules, refl, subst}
use Rattle.mem_base.specs.map.Forest.{IsMade}
use Rattle.mem_base.specs.machine.Answers.{plain_answer}
use Rattle.mem_base.specs.machine.Orders.{load}
use Rattle.mem_base.specs.machine.World.{World}
use Rattle.kept_generations.specs.KeptState.{generations_of}
use Rattle.writer_run.specs.Parts.{part_of}
use Rattle.world_hand.specs.Reached.{IsReached}
use Rattle.world_hand.proofs.Completing.{is_legal}
use Rattle.world_hand.proofs.FlagLaws.{load_sweeps_none}
use Rattle.world_core.proofs.RestLaws.{LeavesIn, Rested, leaves_all, parts_of, rested, steady_leaves}
use Rattle.world_core.proofs.world.World.load_bytes.Goals.{After-load_bytes}
use Rattle.world_core.proofs.world.World.load_bytes.Goals as goal

pub load_bytes-requires : goal.load_bytes-requires
load_bytes-requires c = record { parts = parts_of c.self.inside c.args.self.now c.self.invariant c.self.view_is c.requires.rest }

start : (c : After-load_bytes) → Rested c.self.inside c.args.self.now
start c = rested c.self.inside c.args.self.now c.self.invariant c.self.view_is c.requires.rest

made : (c : After-load_bytes) → IsMade c.self.inside.desk.listened.backed.desk.state.forest
made c = search rules

leaves : (c : After-load_bytes) → LeavesIn c.args.self.now (load c.args.region c.args.offset c.args.bytes.now) (plain_answer c.load_bytes.result) c.self.inside
    c.self.inside.desk c.load_bytes.new.hand.kept c.load_bytes.new.hand.words
leaves c =
    let s = c.self.inside in
    let l = c.load_bytes.new.hand in
    let order = load c.args.region c.args.offset c.args.bytes.now in
    leaves_all s c.args.self.now (start c) order (plain_answer c.load_bytes.result) s.desk l.kept l.words
    (steady_leaves s.desk s.hand.kept s.hand.words (start c).world s.desk l.kept l.words order (plain_answer c.load_bytes.result) (made c)
    c.load_bytes.ensures.turn c.load_bytes.ensures.parts refl (c.load_bytes.ensures.turn.made.flags
    (load_sweeps_none (part_of s.desk (generations_of s.hand.kept)) c.load_bytes.ensures.turn.replies c.args.region c.args.offset c.args.bytes.now)))

pub invariant_of-self : goal.invariant_of-self
invariant_of-self c = (leaves c).world

pub returns-clause-completed : goal.returns-clause-completed
returns-clause-completed c = (leaves c).is

pub returns-clause-legal : goal.returns-clause-legal
returns-clause-legal c =
    (is_legal c.args.self.now (load c.args.region c.args.offset c.args.bytes.now) (subst IsReached c.self.view_is c.self.invariant.reached) c.requires.rest
    (subst (λ (v : World). IsMade v.writer.desk.forest) (start c).view (made c))).legal
