use Rattle.std.proofs.Common.{take, refl}
use Rattle.pass_lines.specs.declared.answers.LineAnswer.TheVariants as answers
use Rattle.pass_lines.proofs.LineLaws.{read_into}
use Rattle.race_block.proofs.passes.read_few.Goals as goal

pub returns : goal.returns
returns c = record {
  answer = answers.Read c.read_first-access.result c.new.result;
  is = refl;
  does = read_into c.args.vcpu.now c.read_first-access.new.vcpu c.args.space c.args.addr c.args.len c.args.len c.read_first-access.result c.new.result
      (take c.args.len c.read_first-access.new.bytes) c.requires.inside refl c.new.ensures c.read_first-access.ensures;
}
