use Rattle.vcpu_pass.proofs.HandLaws.{whole_step}
use Rattle.vcpu_pass.proofs.hands.EnteredPassWrites.write_word.Goals as goal

pub write_whole-requires-clause-whole : goal.write_whole-requires-clause-whole
write_whole-requires-clause-whole c = whole_step c.args.step c.requires.kind c.requires.takes
