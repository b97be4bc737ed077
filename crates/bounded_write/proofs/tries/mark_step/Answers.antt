use Rattle.bounded_write.proofs.tries.mark_step.Goals as goal
use Rattle.vcpu_pass.proofs.HandLaws.{carries_place}

pub mark-requires-clause-carried : goal.mark-requires-clause-carried
mark-requires-clause-carried c = carries_place c.args.pass.now c.args.place.now c.requires.entered c.requires.placed
