use Rattle.pass_lines.proofs.LineLaws.{left}
use Rattle.pass_lines.proofs.lines.leave.Goals as goal

pub returns : goal.returns
returns c = left c.args.vcpu.now c.leave.new.self c.requires.inside c.leave.ensures.left
