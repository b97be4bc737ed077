use Rattle.mem_base.specs.access.AccessSteps.{writing}
use Rattle.mem_base.specs.access.Access.{access}
use Rattle.vcpu_pass.specs.Steps.{generation_in}
use Rattle.vcpu_pass.proofs.HandLaws.{takes_whole}
use Rattle.vcpu_pass.proofs.entered.write_whole_entered.Goals as goal

pub write-requires : goal.write-requires
write-requires c = takes_whole (access (generation_in c.args.pass.now).forest c.args.space c.args.addr (writing c.args.bytes.now)) c.requires.whole
