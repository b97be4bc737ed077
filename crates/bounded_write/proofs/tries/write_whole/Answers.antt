use Rattle.mem_base.specs.declared.access.cells.WordStep.TheVariants.{Replace, Or}
use Rattle.epoch_rule.specs.declared.touches.Touch.TheVariants.{Step}
use Rattle.bounded_write.proofs.tries.write_whole.Goals as goal
use Rattle.vcpu_pass.proofs.HandLaws.{may_word}

pub store8-requires-clause-may : goal.store8-requires-clause-may
store8-requires-clause-may c =
    may_word c.args.pass.now c.args.place.now c.args.word (Step (Replace 0 8 c.in-Replace.value)) c.requires.entered c.requires.placed c.requires.inside

pub or-requires-clause-may : goal.or-requires-clause-may
or-requires-clause-may c =
    may_word c.args.pass.now c.args.place.now c.args.word (Step (Or c.in-Or.bits)) c.requires.entered c.requires.placed c.requires.inside
