use Rattle.std.proofs.Common.{length}
use Rattle.pass_lines.proofs.CopyLaws.{copied}
use Rattle.pass_lines.proofs.copies.copy_bytes.Goals as goal

pub returns-clause-copied : goal.returns-clause-copied
returns-clause-copied g c =
    copied c.args.vcpu _ c.enter_unless-stays.new.pass c.new-vcpu.result c.read_clipped-vcpu.result.0 c.write_clipped-vcpu.result.0 _
    c.leave_unless-number.new.pass c.new.result c.enter_unless-stays.result c.args.from c.args.to (length c.args.bytes.now) c.leave_unless-number.result
    c.read_clipped-vcpu.result.2 c.write_clipped-vcpu.result.2 c.joined-result.result c.read_clipped-vcpu.new.out c.requires.inside
    c.into_parts-pass.ensures.pass c.enter_unless-stays.ensures c.new-vcpu.ensures c.read_clipped-vcpu.ensures.run
    c.write_clipped-vcpu.ensures.run c.into_parts-pass-2.ensures.pass c.leave_unless-number.ensures c.new.ensures c.joined-result.ensures
