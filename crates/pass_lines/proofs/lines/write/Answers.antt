use Rattle.pass_lines.proofs.LineLaws.{wrote}
use Rattle.pass_lines.proofs.lines.write.Goals as goal

pub returns : goal.returns
returns g c =
    wrote c.args.vcpu.now c.write.new.self c.args.space c.args.addr c.write.result c.args.bytes.now c.requires.inside c.write.ensures
