use Rattle.mem_base.specs.declared.access.cells.WordStep.TheVariants.{Load, AddOne, Take}
use Rattle.epoch_rule.specs.declared.touches.Touch.TheVariants.{Step}
use Rattle.vcpu_pass.proofs.HandLaws.{may_word}
use Rattle.vcpu_pass.proofs.steps.read_step.Goals as goal

pub load-requires-clause-may : goal.load-requires-clause-may
load-requires-clause-may c = may_word c.args.pass.now c.args.place.now c.args.word (Step Load) c.requires.entered c.requires.placed c.requires.inside

pub add-requires-clause-may : goal.add-requires-clause-may
add-requires-clause-may c = may_word c.args.pass.now c.args.place.now c.args.word (Step AddOne) c.requires.entered c.requires.placed c.requires.inside

pub take-requires-clause-may : goal.take-requires-clause-may
take-requires-clause-may c = may_word c.args.pass.now c.args.place.now c.args.word (Step Take) c.requires.entered c.requires.placed c.requires.inside
