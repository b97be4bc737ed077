use Rattle.pass_lines.proofs.ClipLaws.{write_whole}
use Rattle.pass_lines.proofs.clips.write_clipped.Goals as goal

pub returns-then-below-bytes-clause-run : goal.returns-then-below-bytes-clause-run
returns-then-below-bytes-clause-run g c =
    write_whole c.args.vcpu c.in_made_forest-vcpu.result c.write_by_windows-vcpu.result.0 c.args.space c.args.addr c.below_end-below.result c.args.bytes.now
    c.write_by_windows-vcpu.result.2 c.joined.result c.in_made_forest-vcpu.ensures.same c.in_made_forest-vcpu.ensures.made c.if-below-bytes.true
    c.below_end-below.ensures.all c.below_end-below.ensures.past c.write_by_windows-vcpu.ensures.run c.joined.ensures
