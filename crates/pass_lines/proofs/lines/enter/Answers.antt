use Rattle.pass_lines.proofs.LineLaws.{entered}
use Rattle.pass_lines.proofs.lines.enter.Goals as goal

pub returns : goal.returns
returns c =
    let e = c.enter.ensures.edition in
    entered c.args.vcpu.now c.enter.new.self c.enter.result e.0 c.requires.inside c.enter.ensures.entered e.1 e.2
