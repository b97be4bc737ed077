use Rattle.mem_base.specs.declared.access.cells.WordStep.TheVariants.{Replace}
use Rattle.epoch_rule.specs.declared.touches.Touch.TheVariants.{Look}
use Rattle.vcpu_pass.proofs.HandLaws.{may_word, made_word}
use Rattle.vcpu_pass.proofs.steps.write_part.Goals as goal

pub replace-requires-clause-may : goal.replace-requires-clause-may
replace-requires-clause-may g c =
    may_word c.args.pass.now c.args.place.now c.args.word Look c.requires.entered c.requires.placed c.requires.inside

pub returns : goal.returns
returns g c =
    let w = c.replace.ensures.wrote in (
      w.0,
      made_word c.args.pass.now c.replace.new.hand c.args.place.now c.args.word (Replace c.args.first c.args.bytes c.args.value) w.0
          c.requires.placed c.replace.ensures.stays w.1,
    )
