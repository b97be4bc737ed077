use Rattle.epoch_rule.specs.declared.touches.Touch.TheVariants.{Look}
use Rattle.bounded_write.proofs.WordLaws.{tried_by}
use Rattle.bounded_write.proofs.tries.replace.Goals as goal
use Rattle.vcpu_pass.proofs.HandLaws.{may_word}

pub exchange-requires-clause-may : goal.exchange-requires-clause-may
exchange-requires-clause-may c =
    may_word c.args.pass.now c.args.place.now c.args.word Look c.requires.entered c.requires.placed c.requires.inside

pub returns : goal.returns
returns c =
    tried_by c.exchange.result c.args.pass.now c.exchange.new.hand c.args.place.now c.args.word c.args.first c.args.bytes c.args.value c.args.tries
    c.requires.placed c.exchange.ensures.stays c.exchange.ensures.wrote
